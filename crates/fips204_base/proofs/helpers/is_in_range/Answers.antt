use Rattle.std.proofs.Common.{arith}
use Rattle.fips204_base.proofs.Names.{common_steps}
use Rattle.fips204_base.proofs.helpers.is_in_range.Goals as goal

pub loop-x-preserved : goal.loop-x-preserved
loop-x-preserved c = (λ t k d less. grind (arith, common_steps), λ all. grind (arith, common_steps))
