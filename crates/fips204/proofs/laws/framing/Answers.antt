use Rattle.fips204.proofs.Framing.{same_input}
use Rattle.fips204.proofs.laws.framing.Goals as goal

pub returns : goal.returns
returns _ = same_input
