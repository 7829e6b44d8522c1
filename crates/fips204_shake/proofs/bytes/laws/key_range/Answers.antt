use Rattle.fips204_shake.proofs.KeyRange.{range_is_of_fields}
use Rattle.fips204_shake.proofs.bytes.laws.key_range.Goals as goal

pub returns : goal.returns
returns _ = λ p known key answer small long checks. range_is_of_fields p known key small long answer checks
