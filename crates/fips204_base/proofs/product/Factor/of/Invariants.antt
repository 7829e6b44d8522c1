use Rattle.std.proofs.Common.{ℕ, ◌≡◌, ◌<◌, ◌≤◌, ◌*◌, ◌%◌, length}
use Rattle.fips204_base.proofs.Names.{nat_abs, residue, coefficient_at}
use Rattle.fips204_base.proofs.product.Factor.of.Given as goal

abbrev pub invariant-loop-n : goal.invariant-loop-n
invariant-loop-n l = record {
  size : length l.values ≡ 256;
  values : (i : ℕ) → i < l.n → residue (coefficient_at l.values i) ≡ 4294967296 * residue (coefficient_at l.initial.values i) % 8380417;
  small : (i : ℕ) → i < 256 → nat_abs (coefficient_at l.values i) ≤ 8380416;
  ahead : (i : ℕ) → l.n ≤ i → coefficient_at l.values i ≡ coefficient_at l.initial.values i;
}
