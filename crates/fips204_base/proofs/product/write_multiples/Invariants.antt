use Rattle.std.proofs.Common.{ℕ, ℤ, ◌≡◌, ◌<◌, ◌≤◌, ◌+◌, ◌*◌, ◌%◌, List, length, get_or}
use Rattle.fips204_base.proofs.Names.{nat_abs, residue, lane, from_mont, coefficient_at}
use Rattle.fips204_base.proofs.product.write_multiples.Given as goal

abbrev pub invariant-loop-n : goal.invariant-loop-n
invariant-loop-n l = record {
  size : length l.out ≡ 256;
  first : (i r : ℕ) (d : List ℤ) → i < l.n → r < 4
      → residue (lane (get_or l.out i d) r) ≡ from_mont (residue (coefficient_at l.c-inside.values i)) * residue (lane (get_or l.v-inside.values i d) r) % 8380417;
  second : (i r : ℕ) (d : List ℤ) → i < l.n → r < 4
      → residue (lane (get_or l.out i d) (4 + r)) ≡ from_mont (residue (coefficient_at l.c-inside.values i)) * residue (lane (get_or l.u-inside.values i d) r) % 8380417;
  small : (i r : ℕ) (d : List ℤ) → i < l.n → r < 8 → nat_abs (lane (get_or l.out i d) r) ≤ 8380416;
}
