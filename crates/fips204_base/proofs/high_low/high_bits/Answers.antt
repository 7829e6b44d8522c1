use Rattle.std.proofs.Common.{rules}
use Rattle.fips204_base.proofs.high_low.high_bits.Goals as goal

pub returns : goal.returns
returns c = search rules
