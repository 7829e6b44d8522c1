use Rattle.std.proofs.Common.{arith}
use Rattle.fips204_base.proofs.Names.{common_steps}
use Rattle.fips204_base.proofs.helpers.norm.norm.Goals as goal

pub loop-x-preserved : goal.loop-x-preserved
loop-x-preserved c = grind (arith, common_steps)

pub returns : goal.returns
returns c = grind (arith, common_steps)
