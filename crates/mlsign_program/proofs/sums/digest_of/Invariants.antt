use Rattle.mlsign_program.proofs.Reading.{IsTaken}
use Rattle.mlsign_program.proofs.sums.digest_of.Given as goal

abbrev pub invariant-loop-count : goal.invariant-loop-count
invariant-loop-count g l = IsTaken (g.R.Read.remaining l.fn.reader) (g.R.Read.remaining l.reader) l.hasher
