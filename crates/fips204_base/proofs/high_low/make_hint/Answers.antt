use Rattle.std.proofs.Common.{rules}
use Rattle.fips204_base.proofs.high_low.make_hint.Goals as goal

pub returns : goal.returns
returns c = search rules
