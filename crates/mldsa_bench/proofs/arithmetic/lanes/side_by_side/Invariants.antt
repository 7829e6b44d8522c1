use Rattle.std.proofs.Common.{ℕ, ℤ, List, ◌≡◌, ◌<◌, ◌≤◌, nat_abs, length}
use Rattle.fips204_base.specs.Lanes.{lane_at}
use Rattle.mldsa_bench.proofs.arithmetic.lanes.side_by_side.Given as goal

abbrev pub invariant-loop-n : goal.invariant-loop-n
invariant-loop-n l = record {
  size : length l.out ≡ 256;
  small : (i j : ℕ) (d : List ℤ) → i < l.n → j < 8 → nat_abs (lane_at (λ (x : List ℤ). x) j d l.out i) ≤ 8380416;
}
