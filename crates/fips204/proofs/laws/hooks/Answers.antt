use Rattle.fips204.proofs.Hooks.{hooks_stand_for_input}
use Rattle.fips204.proofs.laws.hooks.Goals as goal

pub returns : goal.returns
returns _ = hooks_stand_for_input
