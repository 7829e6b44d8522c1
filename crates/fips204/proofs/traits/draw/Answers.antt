use Rattle.std.proofs.Common.{rules}
use Rattle.fips204.proofs.traits.draw.Goals as goal

pub returns-in-Err : goal.returns-in-Err
returns-in-Err g c = search rules
