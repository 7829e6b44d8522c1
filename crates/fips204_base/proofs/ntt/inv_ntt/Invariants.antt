use Rattle.std.proofs.Common.{◌≡◌, ℕ, ◌<◌, ◌≤◌, ◌+◌, ◌*◌, get_or, length}
use Rattle.fips204_base.proofs.Names.{IsInverse}
use Rattle.fips204_base.proofs.ntt.inv_ntt.Given as goal

abbrev pub invariant-loop-row : goal.invariant-loop-row
invariant-loop-row g l = record {
  size : length l.out ≡ g.row.KL;
  products : g.V.Residue.products l.meter ≡ g.V.Residue.products l.fn.meter + 1024 * l.row;
  sums : g.V.Residue.sums l.meter ≡ g.V.Residue.sums l.fn.meter + 2048 * l.row;
  rest : (r : ℕ) (d : _) → l.row ≤ r → get_or l.out r d ≡ get_or l.fn.w_hat r d;
  values : (r : ℕ) (d : _) → r < l.row → IsInverse g.V.Residue.lanes g.V.Residue.width (get_or l.fn.w_hat r d) (get_or l.out r d);
}
