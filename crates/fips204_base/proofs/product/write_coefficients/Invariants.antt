use Rattle.std.proofs.Common.{ℕ, ◌≡◌, ◌≢◌, ◌<◌, length, get_or}
use Rattle.fips204_base.proofs.Names.{lane, coefficient_of, R}
use Rattle.fips204_base.proofs.product.write_coefficients.Given as goal

abbrev pub invariant-loop-r : goal.invariant-loop-r
invariant-loop-r g l = record {
  size : length l.out ≡ g.row.N;
  places : (k : ℕ) (d : R) → k < l.r → length (get_or l.out k d).0 ≡ 256;
  values : (k : ℕ) → k < l.r → coefficient_of l.out k l.n ≡ lane l.entries k;
  kept : (k m : ℕ) → m ≢ l.n → coefficient_of l.out k m ≡ coefficient_of l.initial.out k m;
}
