use Rattle.std.proofs.Common.{ℕ, [], ◌≡◌, ◌<◌, ◌*◌, ◌%◌, get_or, length}
use Rattle.fips204_base.proofs.Names.{T, sum_below, vector_residues, ValuesWithin}
use Rattle.fips204_base.proofs.helpers.vector.mat_vec_mul.Given as goal

abbrev pub invariant-loop-i : goal.invariant-loop-i
invariant-loop-i g l = record {
  size : length l.out ≡ g.row.K;
  values : (r j : ℕ) → r < l.i → j < 256 → vector_residues l.out r j ≡ sum_below g.row.L (λ k. vector_residues (get_or l.a r []) k j * vector_residues l.u k j) % 8380417;
  small : (r : ℕ) (d : T) → r < l.i → ValuesWithin 8380416 (get_or l.out r d).0;
}
