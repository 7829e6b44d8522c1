use Rattle.fips204.proofs.PreparedBytes.{prepared_through_bytes}
use Rattle.fips204.proofs.laws.prepared_bytes.Goals as goal

pub returns : goal.returns
returns _ = prepared_through_bytes
