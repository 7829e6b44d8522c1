use Rattle.std.proofs.Common.{ℕ, ℤ, ◌≡◌, ◌<◌, ◌≤◌, List, [], length, get_or}
use Rattle.fips204_base.proofs.Names.{nat_abs, lane, row_value, coefficient_of, vector_coefficients}
use Rattle.fips204_base.proofs.product.Transforms.multiply_over.Given as goal

abbrev pub invariant-loop-r : goal.invariant-loop-r
invariant-loop-r g l = record {
  size : length l.rows ≡ g.row.K;
  values : (k i : ℕ) → k < l.r → i < 256 → vector_coefficients l.rows k i ≡ row_value g.row.L (get_or l.a k []) l.v i;
  small : (k i : ℕ) → k < l.r → i < 256 → nat_abs (coefficient_of l.rows k i) ≤ 8380416;
}

abbrev pub invariant-loop-n : goal.invariant-loop-n
invariant-loop-n g l = record {
  size : length l.self-inside.values ≡ 256;
  values : (r i : ℕ) (d : List ℤ) → r < g.row.K → i < l.n → lane (get_or l.self-inside.values i d) r ≡ coefficient_of l.rows r i;
  small : (i r : ℕ) (d : List ℤ) → i < 256 → r < 8 → nat_abs (lane (get_or l.self-inside.values i d) r) ≤ 8380416;
}
