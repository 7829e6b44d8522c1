use Rattle.std.proofs.Common.{rules}
use Rattle.fips204.proofs.keys.private.PrivateKeyClone.clone.Goals as goal

pub returns : goal.returns
returns g c = search rules
