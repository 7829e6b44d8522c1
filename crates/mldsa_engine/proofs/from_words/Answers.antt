use Rattle.std.proofs.Common.{rules}
use Rattle.mldsa_engine.proofs.from_words.Goals as goal

pub returns-in-Fill55-clause-answer : goal.returns-in-Fill55-clause-answer
returns-in-Fill55-clause-answer g c = search rules

pub returns-in_default-clause-untouched : goal.returns-in_default-clause-untouched
returns-in_default-clause-untouched g c = search rules
