use Rattle.std.proofs.Common.{rules}
use Rattle.fips204.proofs.traits.DummyRngCryptoRngCore.try_fill_bytes.Goals as goal

pub returns-clause-answer : goal.returns-clause-answer
returns-clause-answer g = search rules
