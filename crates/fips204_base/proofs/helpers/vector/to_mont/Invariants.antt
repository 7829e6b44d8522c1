use Rattle.std.proofs.Common.{ℕ, ◌≡◌, ◌<◌, ◌*◌, ◌%◌, get_or, length}
use Rattle.fips204_base.proofs.Names.{T, vector_residues, ValuesWithin}
use Rattle.fips204_base.proofs.helpers.vector.to_mont.Given as goal

abbrev pub invariant-loop-i : goal.invariant-loop-i
invariant-loop-i g l = record {
  size : length l.out ≡ g.row.L;
  values : (r j : ℕ) → r < l.i → j < 256 → vector_residues l.out r j ≡ 4294967296 * vector_residues l.v r j % 8380417;
  small : (r : ℕ) (d : T) → r < l.i → ValuesWithin 8380416 (get_or l.out r d).0;
}
