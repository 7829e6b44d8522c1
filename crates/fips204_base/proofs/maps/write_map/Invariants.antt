use Rattle.std.proofs.Common.{ℕ, ◌≡◌, ◌≤◌, ◌<◌, length}
use Rattle.fips204_base.proofs.Names.{coefficient_at}
use Rattle.fips204_base.proofs.maps.write_map.Given as goal

abbrev pub invariant-loop-n : goal.invariant-loop-n
invariant-loop-n g l = record {
  size : length l.w ≡ 256;
  changed : (k : ℕ) → k < l.n → goal.F-post g l.f (coefficient_at l.initial.w k) (coefficient_at l.w k);
  kept : (k : ℕ) → l.n ≤ k → coefficient_at l.w k ≡ coefficient_at l.initial.w k;
}
