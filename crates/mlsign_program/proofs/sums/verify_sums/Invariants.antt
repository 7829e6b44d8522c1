use Rattle.std.proofs.Common.{◌≡◌}
use Rattle.mlsign_program.proofs.sums.verify_sums.Given as goal

abbrev pub invariant-loop-key : goal.invariant-loop-key
invariant-loop-key l = l.key-items ≡ l.fn.keys
