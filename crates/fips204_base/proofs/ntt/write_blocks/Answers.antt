use Rattle.std.proofs.Common.{arith, ◌≡◌, subst, rules}
use Rattle.fips204_base.proofs.Names.{lane_at, SoFar, layer_none, layer_more, layer_whole, block_fits, count_below, layer_products, layer_sums}
use Rattle.fips204_base.proofs.ntt.write_blocks.Goals as goal

pub write_block-requires : goal.write_block-requires
write_block-requires g c =
    let inside = block_fits c.args.count c.args.len c.loop-b.b c.requires.whole c.loop-b-test.true in
    let below = count_below c.args.count c.args.len c.requires.whole in (
      search rules,
      (
        omega (arith, below, c.loop-b-test.true),
        (
          omega (arith, inside, c.loop-b.invariant.place),
          (
            (omega (arith, inside, c.loop-b.invariant.products, c.requires.room), omega (arith, inside, c.loop-b.invariant.sums, c.requires.room)),
            λ p j d q r h. rw ((c.loop-b.invariant.values j d h).rest p (omega (arith, q, c.loop-b.invariant.place))) (c.requires.fits p j d r h),
          ),
        ),
      ),
    )

pub loop-b-init : goal.loop-b-init
loop-b-init g c = record {
  size = c.told-w;
  place = omega arith;
  products = omega arith;
  sums = omega arith;
  values = λ j d h. layer_none (λ b. g.B.Butterfly.pair (g.B.Butterfly.power c.args.count b)) c.args.len (lane_at g.V.Residue.lanes j d c.args.w.now);
}

pub loop-b-preserved : goal.loop-b-preserved
loop-b-preserved g c = record {
  size = c.write_block.ensures.size;
  place = omega (arith, c.loop-b.invariant.place);
  products = omega (arith, c.write_block.ensures.products, c.loop-b.invariant.products);
  sums = omega (arith, c.write_block.ensures.sums, c.loop-b.invariant.sums);
  values = λ j d h. layer_more (λ b. g.B.Butterfly.pair (g.B.Butterfly.power c.args.count b)) c.args.len c.loop-b.b c.loop-b.start (lane_at g.V.Residue.lanes j d c.args.w.now) (lane_at g.V.Residue.lanes j d c.loop-b.w) (lane_at g.V.Residue.lanes j d c.write_block.new.w)
      c.loop-b.invariant.place (rw c.power.ensures.value at (c.write_block.ensures.values j d h)) (c.loop-b.invariant.values j d h);
}

pub returns : goal.returns
returns g c =
    let whole : c.loop-b.b ≡ c.args.count = omega arith in
    record {
      values = λ j d h. layer_whole (λ b. g.B.Butterfly.pair (g.B.Butterfly.power c.args.count b)) c.args.count c.args.len (lane_at g.V.Residue.lanes j d c.args.w.now) (lane_at g.V.Residue.lanes j d c.loop-b.w)
          (subst (λ n. SoFar (λ b. g.B.Butterfly.pair (g.B.Butterfly.power c.args.count b)) c.args.len n (lane_at g.V.Residue.lanes j d c.args.w.now) (lane_at g.V.Residue.lanes j d c.loop-b.w)) whole (c.loop-b.invariant.values j d h));
      products = layer_products c.args.count c.args.len c.loop-b.b _ _ whole c.requires.whole c.loop-b.invariant.products;
      sums = layer_sums c.args.count c.args.len c.loop-b.b _ _ whole c.requires.whole c.loop-b.invariant.sums;
      size = c.loop-b.invariant.size;
    }
