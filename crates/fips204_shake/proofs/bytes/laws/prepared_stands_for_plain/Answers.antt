use Rattle.fips204_shake.proofs.PreparedKeys.{prepared_stands_for_plain}
use Rattle.fips204_shake.proofs.bytes.laws.prepared_stands_for_plain.Goals as goal

pub returns : goal.returns
returns c = λ p H G known. prepared_stands_for_plain p H G (c.prepared_bytes.ensures p G known) (c.prepared_keys.ensures p H G)
