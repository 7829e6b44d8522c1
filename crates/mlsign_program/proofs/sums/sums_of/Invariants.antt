use Rattle.std.proofs.Common.{length}
use Rattle.mlsign_program.proofs.Lines.{IsBegun}
use Rattle.mlsign_program.proofs.sums.sums_of.Given as goal

abbrev pub invariant-loop-line : goal.invariant-loop-line
invariant-loop-line l = IsBegun l.fn.text l.rest l.sums.items

abbrev pub decreases-loop-line : goal.decreases-loop-line
decreases-loop-line l = length l.rest
