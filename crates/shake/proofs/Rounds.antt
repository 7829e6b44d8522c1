-- The rounds of the permutation, two after two.
use Rattle.std.proofs.Common.{◌≡◌, ℕ, ◌+◌, ◌*◌, List, slice_index, refl, ap, ◌∙◌, add-one, arith}
use Rattle.shake.specs.Keccak.{round, rounds, round_constants}

pub next_rounds : (a : List ℕ) (n : ℕ) → rounds a (2 * (n + 1)) ≡ round (round (rounds a (2 * n)) (slice_index round_constants (2 * n))) (slice_index round_constants (2 * n + 1))
unfolding rounds
next_rounds a n =
    let twice : 2 * (n + 1) ≡ 2 * n + 1 + 1 = omega arith in
    ap (rounds a) twice ∙ rw (add-one, add-one) refl
