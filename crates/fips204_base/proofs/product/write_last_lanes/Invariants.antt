use Rattle.std.proofs.Common.{ℕ, ℤ, ◌≡◌, ◌<◌, ◌+◌, List, get_or, length}
use Rattle.fips204_base.proofs.Names.{lane, coefficient_of, R}
use Rattle.fips204_base.proofs.product.write_last_lanes.Given as goal

abbrev pub invariant-loop-n : goal.invariant-loop-n
invariant-loop-n g l = record {
  size : length l.out ≡ g.row.N;
  places : (r : ℕ) (d : R) → r < g.row.N → 0 < l.n → length (get_or l.out r d).0 ≡ 256;
  values : (r i : ℕ) (d : List ℤ) → r < g.row.N → i < l.n → coefficient_of l.out r i ≡ lane (get_or l.lanes i d) (4 + r);
}
