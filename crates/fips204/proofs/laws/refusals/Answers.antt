use Rattle.fips204.proofs.RefusalLaws.{refuses_only}
use Rattle.fips204.proofs.laws.refusals.Goals as goal

pub returns : goal.returns
returns _ = refuses_only
