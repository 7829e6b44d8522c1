use Rattle.std.proofs.Common.{arith}
use Rattle.fips204_base.proofs.xof.sampling_limit.Goals as goal

pub returns-clause-least : goal.returns-clause-least
returns-clause-least g c = omega (arith, g.met.X.Xof.front_least)

pub returns-clause-most : goal.returns-clause-most
returns-clause-most g c = omega (arith, g.met.X.Xof.front_most)
