use Rattle.std.proofs.Common.{ℕ, ◌≡◌, ◌≢◌, ◌<◌, length, get_or}
use Rattle.fips204_base.proofs.Names.{lane, coefficient_at, T}
use Rattle.fips204_base.proofs.product.matrix.write_values_at.Given as goal

abbrev pub invariant-loop-k : goal.invariant-loop-k
invariant-loop-k g l = record {
  size : length l.out ≡ g.row.L;
  places : (k : ℕ) (d : T) → k < l.k → length (get_or l.out k d).0 ≡ 256;
  values : (k : ℕ) (d : T) → k < l.k → coefficient_at (get_or l.out k d).0 l.n ≡ lane l.entries k;
  kept : (k m : ℕ) (d : T) → m ≢ l.n → coefficient_at (get_or l.out k d).0 m ≡ coefficient_at (get_or l.initial.out k d).0 m;
}
