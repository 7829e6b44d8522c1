use Rattle.std.proofs.Common.{ℕ, ℤ, ◌≡◌, ◌<◌, ◌≤◌, ◌*◌, ◌%◌, get_or, length}
use Rattle.fips204_base.proofs.Names.{nat_abs, coefficients, sum_below, vector_residues}
use Rattle.fips204_base.proofs.helpers.vector.write_row_sums.Given as goal

abbrev pub invariant-loop-j : goal.invariant-loop-j
invariant-loop-j g l = record {
  size : length l.out ≡ 256;
  values : (p : ℕ) → p < l.j → coefficients l.out p ≡ sum_below g.row.L (λ k. vector_residues l.row k p * vector_residues l.u k p) % 8380417;
  small : (p : ℕ) (d : ℤ) → p < l.j → nat_abs (get_or l.out p d) ≤ 8380416;
}
