use Rattle.fips204_shake.specs.Fronts.{shake256_front, shake128_front}
use Rattle.mldsa_c.proofs.MessagePieces as pieces
use Rattle.mldsa_c.proofs.callers.message_in_pieces.Goals as goal

pub returns-clause-signed : goal.returns-clause-signed
returns-clause-signed c = λ p. pieces.signed p (c.mu_stands_for_input.ensures p shake256_front shake128_front)

pub returns-clause-judged : goal.returns-clause-judged
returns-clause-judged c = λ p. pieces.judged p (c.mu_stands_for_input.ensures p shake256_front shake128_front)

pub returns-clause-context : goal.returns-clause-context
returns-clause-context c = λ wanted key tr context old new status begins room fits long. ((begins.0 room).0 fits).1 long

pub returns-clause-zeros : goal.returns-clause-zeros
returns-clause-zeros c = λ tr context m held. pieces.zeros held.0

pub returns-clause-forgotten : goal.returns-clause-forgotten
returns-clause-forgotten c = λ piece new mu mu' status. (pieces.unused piece new status, pieces.unfinished mu mu' status)
