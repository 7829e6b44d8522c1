use Rattle.fips204.proofs.Prepared.{prepared_answers_as_plain}
use Rattle.fips204.proofs.laws.prepared_keys.Goals as goal

pub returns : goal.returns
returns _ = prepared_answers_as_plain
