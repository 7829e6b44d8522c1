use Rattle.std.proofs.Common.{ℕ, length, ◌+◌, ◌-◌, ◌≡◌, ◌≤◌, ◌++◌, take}
use Rattle.shake.specs.Pieces.{next}
use Rattle.shake.proofs.sponge.ShakeReader.read.Given as goal

abbrev pub invariant-loop-filled : goal.invariant-loop-filled
invariant-loop-filled g l = record {
  within : l.filled ≤ length l.out;
  pieces : (d : ℕ) → next l.fn.self (l.filled + d) ≡ take l.filled l.out ++ next l.self d;
}

abbrev pub decreases-loop-filled : goal.decreases-loop-filled
decreases-loop-filled g l = length l.initial.out - l.filled
