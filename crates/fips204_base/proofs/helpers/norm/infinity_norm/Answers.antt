use Rattle.std.proofs.Common.{arith}
use Rattle.fips204_base.proofs.Names.{common_steps}
use Rattle.fips204_base.proofs.helpers.norm.infinity_norm.Goals as goal

pub loop-polynomial-preserved : goal.loop-polynomial-preserved
loop-polynomial-preserved g c = grind (arith, common_steps)
