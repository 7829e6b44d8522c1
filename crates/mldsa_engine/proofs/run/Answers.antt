use Rattle.std.proofs.Common.{rules}
use Rattle.mldsa_engine.proofs.run.Goals as goal

pub returns-clause-answer : goal.returns-clause-answer
returns-clause-answer g c = search rules
