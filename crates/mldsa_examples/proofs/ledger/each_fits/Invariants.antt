use Rattle.std.proofs.Common.{ℕ, ◌<◌}
use Rattle.mldsa_examples.specs.Ledger.{FitsPrepared}
use Rattle.mldsa_examples.specs.declared.ledger.TheConstants.{CONTEXT}
use Rattle.mldsa_examples.proofs.ledger.each_fits.Given as goal

abbrev pub invariant-loop-place : goal.invariant-loop-place
invariant-loop-place g l = (k : ℕ) → k < l.place → FitsPrepared g.H.Xof.front l.key CONTEXT.now l.ledger k
