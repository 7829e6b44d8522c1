use Rattle.std.proofs.Common.{◌≡◌, ◌<◌, ◌≤◌, ℕ}
use Rattle.shake.specs.Four.{AreFour, state_at}
use Rattle.shake.specs.Keccak.{round}
use Rattle.shake.proofs.four.two_rounds.Given as goal

abbrev pub invariant-loop-j : goal.invariant-loop-j
invariant-loop-j l = record {
  four : AreFour l.states;
  done : (i : ℕ) → i < l.j → state_at l.states i ≡ round (round (state_at l.initial.states i) l.first) l.second;
  left : (i : ℕ) → l.j ≤ i → i < 4 → state_at l.states i ≡ state_at l.initial.states i;
}
