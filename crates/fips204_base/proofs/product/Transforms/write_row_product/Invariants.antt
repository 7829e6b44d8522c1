use Rattle.std.proofs.Common.{ℕ, ℤ, ◌≡◌, ◌≢◌, ◌<◌, ◌≤◌, List, length, get_or}
use Rattle.fips204_base.proofs.Names.{nat_abs, lane, residue, row_value}
use Rattle.fips204_base.proofs.product.Transforms.write_row_product.Given as goal

abbrev pub invariant-loop-n : goal.invariant-loop-n
invariant-loop-n g l = record {
  size : length l.self-inside.values ≡ 256;
  values : (i : ℕ) (d : List ℤ) → i < l.n → residue (lane (get_or l.self-inside.values i d) l.r) ≡ row_value g.row.L l.row l.v i;
  others : (i j : ℕ) (d : List ℤ) → i < 256 → j ≢ l.r → lane (get_or l.self-inside.values i d) j ≡ lane (get_or l.initial.self-inside.values i d) j;
  small : (i j : ℕ) (d : List ℤ) → i < 256 → j < 8 → nat_abs (lane (get_or l.self-inside.values i d) j) ≤ 8380416;
}
