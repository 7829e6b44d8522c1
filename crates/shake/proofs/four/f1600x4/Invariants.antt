use Rattle.std.proofs.Common.{◌≡◌, ◌<◌, ◌*◌, ℕ}
use Rattle.shake.specs.Four.{AreFour, state_at}
use Rattle.shake.specs.Keccak.{rounds}
use Rattle.shake.proofs.four.f1600x4.Given as goal

abbrev pub invariant-loop-pair : goal.invariant-loop-pair
invariant-loop-pair l = record {
  four : AreFour l.states;
  permuted : (j : ℕ) → j < 4 → state_at l.states j ≡ rounds (state_at l.initial.states j) (2 * l.pair);
}
