use Rattle.std.proofs.Common.{rules}
use Rattle.fips204.proofs.keys.random.draw_if.Goals as goal

pub returns-then-hedged : goal.returns-then-hedged
returns-then-hedged g c = search rules
