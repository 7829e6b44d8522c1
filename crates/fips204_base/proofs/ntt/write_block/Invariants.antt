use Rattle.std.proofs.Common.{◌≡◌, ℕ, ◌<◌, ◌+◌, ◌*◌, length}
use Rattle.fips204_base.proofs.Names.{lane_at, Halves}
use Rattle.fips204_base.proofs.ntt.write_block.Given as goal

abbrev pub invariant-loop-k : goal.invariant-loop-k
invariant-loop-k g l = record {
  front : length l.front ≡ l.len;
  back : length l.back ≡ l.len;
  products : g.V.Residue.products l.meter ≡ g.V.Residue.products l.fn.meter + l.k;
  sums : g.V.Residue.sums l.meter ≡ g.V.Residue.sums l.fn.meter + 2 * l.k;
  values : (j : ℕ) (d : _) → j < g.V.Residue.width → Halves (g.B.Butterfly.pair l.m) l.start l.len l.k (lane_at g.V.Residue.lanes j d l.fn.w) (lane_at g.V.Residue.lanes j d l.front) (lane_at g.V.Residue.lanes j d l.back);
}
