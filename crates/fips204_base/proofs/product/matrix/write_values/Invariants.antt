use Rattle.std.proofs.Common.{ℕ, ℤ, ◌≡◌, ◌<◌, List, get_or, length}
use Rattle.fips204_base.proofs.Names.{lane, coefficient_at, T}
use Rattle.fips204_base.proofs.product.matrix.write_values.Given as goal

abbrev pub invariant-loop-n : goal.invariant-loop-n
invariant-loop-n g l = record {
  size : length l.out ≡ g.row.L;
  places : (k : ℕ) (d : T) → k < g.row.L → 0 < l.n → length (get_or l.out k d).0 ≡ 256;
  values : (k i : ℕ) (d : T) (e : List ℤ) → k < g.row.L → i < l.n → coefficient_at (get_or l.out k d).0 i ≡ lane (get_or l.lanes i e) k;
}
