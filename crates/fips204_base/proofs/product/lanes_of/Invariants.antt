use Rattle.std.proofs.Common.{ℕ, ◌≡◌, ◌<◌, ◌≤◌, length}
use Rattle.fips204_base.proofs.Names.{nat_abs, lane, coefficient_of}
use Rattle.fips204_base.proofs.product.lanes_of.Given as goal

abbrev pub invariant-loop-r : goal.invariant-loop-r
invariant-loop-r g l = record {
  size : length l.entries ≡ 8;
  values : (k : ℕ) → k < l.r → lane l.entries k ≡ coefficient_of l.v k l.n;
  small : (k : ℕ) → k < 8 → nat_abs (lane l.entries k) ≤ 8380416;
}
