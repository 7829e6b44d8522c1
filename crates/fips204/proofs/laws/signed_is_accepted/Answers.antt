use Rattle.fips204.proofs.SeedKeys.{signed_is_accepted}
use Rattle.fips204.proofs.laws.signed_is_accepted.Goals as goal

pub returns : goal.returns
returns _ = signed_is_accepted
