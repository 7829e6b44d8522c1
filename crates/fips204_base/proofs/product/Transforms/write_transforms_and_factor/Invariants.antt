use Rattle.std.proofs.Common.{ℕ, ℤ, ◌≡◌, ◌<◌, ◌≤◌, ◌*◌, ◌%◌, List, [], length, get_or}
use Rattle.fips204_base.proofs.Names.{nat_abs, lane, residue, coefficient_at, coefficient_of}
use Rattle.fips204_base.proofs.product.Transforms.write_transforms_and_factor.Given as goal

abbrev pub invariant-loop-n : goal.invariant-loop-n
invariant-loop-n g l = record {
  size : length l.self-inside.values ≡ 256;
  values : (r i : ℕ) (d : List ℤ) → r < g.row.N → i < l.n → lane (get_or l.self-inside.values i d) r ≡ coefficient_of l.v r i;
  last : (i : ℕ) (d : List ℤ) → i < l.n → lane (get_or l.self-inside.values i d) 7 ≡ coefficient_at l.c.0 i;
  small : (r i : ℕ) (d : List ℤ) → r < 8 → i < l.n → nat_abs (lane (get_or l.self-inside.values i d) r) ≤ 8380416;
}

abbrev pub invariant-loop-i : goal.invariant-loop-i
invariant-loop-i g l = record {
  size : length l.values ≡ 256;
  values : (k : ℕ) → k < l.i → residue (coefficient_at l.values k) ≡ 4294967296 * residue (lane (get_or l.self-inside.values k []) 7) % 8380417;
  small : (k : ℕ) → k < l.i → nat_abs (coefficient_at l.values k) ≤ 8380416;
}
