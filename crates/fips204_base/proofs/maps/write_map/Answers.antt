use Rattle.std.proofs.Common.{arith}
use Rattle.fips204_base.proofs.Names.{common_steps}
use Rattle.fips204_base.proofs.maps.write_map.Goals as goal

pub loop-n-preserved : goal.loop-n-preserved
loop-n-preserved g c = grind (arith, common_steps)
