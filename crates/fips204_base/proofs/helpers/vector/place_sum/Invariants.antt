use Rattle.std.proofs.Common.{◌≡◌, ◌≤◌, ◌*◌}
use Rattle.fips204_base.proofs.Names.{nat_abs, residue, row_value}
use Rattle.fips204_base.proofs.helpers.vector.place_sum.Given as goal

abbrev pub invariant-loop-k : goal.invariant-loop-k
invariant-loop-k g l = record {
  value : residue l.sum ≡ row_value l.k l.row l.u l.j;
  small : nat_abs l.sum ≤ 70231372333056 * l.k;
}
