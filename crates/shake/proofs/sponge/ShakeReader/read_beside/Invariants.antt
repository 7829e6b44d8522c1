use Rattle.std.proofs.Common.{◌≤◌, ◌-◌, []}
use Rattle.shake.proofs.SideBySide.{IsGiven}
use Rattle.shake.specs.Four.{AreFour, state_at}
use Rattle.shake.specs.Pieces.{next}
use Rattle.shake.specs.State.{next_bytes}
use Rattle.shake.proofs.sponge.ShakeReader.read_beside.Given as goal

abbrev pub invariant-loop-done : goal.invariant-loop-done
invariant-loop-done g l = record {
  within : l.done ≤ l.size;
  four : AreFour l.states;
  first : IsGiven (next l.fn.a) l.done l.to_a (next_bytes g.row.R (state_at l.states 0) [] 0);
  second : IsGiven (next l.fn.b) l.done l.to_b (next_bytes g.row.R (state_at l.states 1) [] 0);
  third : IsGiven (next l.fn.c) l.done l.to_c (next_bytes g.row.R (state_at l.states 2) [] 0);
  fourth : IsGiven (next l.fn.d) l.done l.to_d (next_bytes g.row.R (state_at l.states 3) [] 0);
}

abbrev pub decreases-loop-done : goal.decreases-loop-done
decreases-loop-done g l = l.size - l.done
