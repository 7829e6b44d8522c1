use Rattle.std.proofs.Common.{rules}
use Rattle.fips204_base.proofs.LanePairs.{paired}
use Rattle.fips204_base.proofs.lanes.pairs.Goals as goal

pub returns : goal.returns
returns c = paired c.args.x (search rules) c.requires
