use Rattle.std.proofs.Common.{rules}
use Rattle.fips204_base.proofs.high_low.power2round_coefficient.Goals as goal

pub returns-clause-high : goal.returns-clause-high
returns-clause-high c = search rules
