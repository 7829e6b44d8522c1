use Rattle.std.proofs.Common.{◌≡◌, ℕ, ◌<◌, ◌≤◌, ◌+◌, ◌-◌, ◌*◌, ◌/◌, ◌^◌, length}
use Rattle.fips204_base.proofs.Names.{nat_abs, IsCongruent, transform, lane_at, residues, KeepsValues}
use Rattle.fips204_base.proofs.ntt.write_ntt.Given as goal

abbrev pub invariant-loop-s : goal.invariant-loop-s
invariant-loop-s g l = record {
  size : length l.w ≡ 256;
  count : l.count ≡ 2 ^ l.s;
  len : l.len ≡ 2 ^ (8 - l.s) / 2;
  products : g.V.Residue.products l.meter ≡ g.V.Residue.products l.fn.meter + 128 * l.s;
  sums : g.V.Residue.sums l.meter ≡ g.V.Residue.sums l.fn.meter + 256 * l.s;
  range : (p j : ℕ) (d : _) → p < 256 → j < g.V.Residue.width → nat_abs (lane_at g.V.Residue.lanes j d l.w p) ≤ 8380416 * (l.s + 1);
  values : (j : ℕ) (d : _) → j < g.V.Residue.width → KeepsValues (2 ^ l.s) (2 ^ (8 - l.s)) (residues g.V.Residue.lanes j d l.fn.w) (residues g.V.Residue.lanes j d l.w);
}

abbrev pub invariant-loop-i : goal.invariant-loop-i
invariant-loop-i g l = record {
  size : length l.w ≡ 256;
  done : (p j : ℕ) (d : _) → p < l.i → j < g.V.Residue.width
      → IsCongruent (residues g.V.Residue.lanes j d l.w p) (transform (residues g.V.Residue.lanes j d l.fn.w) p) × (nat_abs (lane_at g.V.Residue.lanes j d l.w p) ≤ 8380416);
  ahead : (p j : ℕ) (d : _) → l.i ≤ p → p < 256 → j < g.V.Residue.width
      → IsCongruent (residues g.V.Residue.lanes j d l.w p) (transform (residues g.V.Residue.lanes j d l.fn.w) p) × (nat_abs (lane_at g.V.Residue.lanes j d l.w p) ≤ 75423744);
}
