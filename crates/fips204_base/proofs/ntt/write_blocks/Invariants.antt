use Rattle.std.proofs.Common.{◌≡◌, ℕ, ◌<◌, ◌+◌, ◌*◌, length}
use Rattle.fips204_base.proofs.Names.{lane_at, SoFar}
use Rattle.fips204_base.proofs.ntt.write_blocks.Given as goal

abbrev pub invariant-loop-b : goal.invariant-loop-b
invariant-loop-b g l = record {
  size : length l.w ≡ 256;
  place : l.start ≡ 2 * l.len * l.b;
  products : g.V.Residue.products l.meter ≡ g.V.Residue.products l.fn.meter + l.len * l.b;
  sums : g.V.Residue.sums l.meter ≡ g.V.Residue.sums l.fn.meter + 2 * l.len * l.b;
  values : (j : ℕ) (d : _) → j < g.V.Residue.width → SoFar (λ b. g.B.Butterfly.pair (g.B.Butterfly.power l.count b)) l.len l.b (lane_at g.V.Residue.lanes j d l.fn.w) (lane_at g.V.Residue.lanes j d l.w);
}
