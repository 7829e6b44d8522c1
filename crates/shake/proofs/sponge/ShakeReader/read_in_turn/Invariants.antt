use Rattle.std.proofs.Common.{◌≤◌, ◌-◌, length, min}
use Rattle.shake.proofs.SideBySide.{IsGiven}
use Rattle.shake.specs.Pieces.{next}
use Rattle.shake.proofs.sponge.ShakeReader.read_in_turn.Given as goal

abbrev pub invariant-loop-filled : goal.invariant-loop-filled
invariant-loop-filled g l = record {
  within : l.filled ≤ length l.to_a;
  first : IsGiven (next l.fn.a) l.filled l.to_a (next l.a);
  second : IsGiven (next l.fn.b) l.filled l.to_b (next l.b);
  third : IsGiven (next l.fn.c) l.filled l.to_c (next l.c);
  fourth : IsGiven (next l.fn.d) (min l.filled (length l.to_d)) l.to_d (next l.d);
}

abbrev pub decreases-loop-filled : goal.decreases-loop-filled
decreases-loop-filled g l = length l.initial.to_a - l.filled
