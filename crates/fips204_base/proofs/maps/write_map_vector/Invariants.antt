use Rattle.std.proofs.Common.{ℕ, ◌≡◌, ◌≤◌, ◌<◌, length, get_or, []}
use Rattle.fips204_base.proofs.Names.{coefficient_of}
use Rattle.fips204_base.proofs.maps.write_map_vector.Given as goal

abbrev pub invariant-loop-r : goal.invariant-loop-r
invariant-loop-r g l = record {
  rows : length l.v ≡ g.row.K;
  places : (k : ℕ) → k < l.r → length (get_or l.v k record { 0 = [] }).0 ≡ 256;
  changed : (k n : ℕ) → k < l.r → n < 256 → goal.F-post g l.f (coefficient_of l.initial.v k n) (coefficient_of l.v k n);
  kept : (k n : ℕ) → l.r ≤ k → coefficient_of l.v k n ≡ coefficient_of l.initial.v k n;
}
