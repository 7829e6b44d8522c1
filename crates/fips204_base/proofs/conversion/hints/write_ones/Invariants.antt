use Rattle.std.proofs.Common.{ℕ, ◌≡◌, ◌<◌, ◌-◌, get_or, take, length, pos}
use Rattle.fips204_base.proofs.Names.{ones, PolynomialInRange}
use Rattle.fips204_base.proofs.conversion.hints.write_ones.Given as goal

abbrev pub invariant-loop-k : goal.invariant-loop-k
invariant-loop-k l = record {
  size : length l.w.0 ≡ 256;
  bits : PolynomialInRange (pos 0) (pos 1) l.w.0;
  so_far : take l.k l.places ≡ ones l.w;
  zeros : (j : ℕ) → (0 < l.k → get_or l.places (l.k - 1) 0 < j) → get_or l.w.0 j (pos 0) ≡ pos 0;
}
