use Rattle.std.proofs.Common.{refl}
use Rattle.fips204_shake.proofs.pem.Kind.begin_line.Goals as goal

pub returns-in-Public : goal.returns-in-Public
returns-in-Public c = rw c.in-Public.is refl

pub returns-in-Private : goal.returns-in-Private
returns-in-Private c = rw c.in-Private.is refl
