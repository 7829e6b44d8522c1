use Rattle.std.proofs.Common.{rules}
use Rattle.fips204_base.proofs.LanePairs.{parted}
use Rattle.fips204_base.proofs.lanes.halves.Goals as goal

pub returns : goal.returns
returns c = parted c.args.x (search rules) c.requires
