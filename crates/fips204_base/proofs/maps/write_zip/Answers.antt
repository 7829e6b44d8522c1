use Rattle.std.proofs.Common.{rules}
use Rattle.fips204_base.proofs.maps.write_zip.Goals as goal

pub loop-n-preserved : goal.loop-n-preserved
loop-n-preserved g c = search rules
