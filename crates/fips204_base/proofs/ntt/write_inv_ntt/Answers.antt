use Rattle.std.proofs.Common.{arith, ap, pos, length, length-set, ◌∙◌, ◌<◌, ◌%◌, ◌≡◌, ◌*◌, ◌^◌, ◌-◌, subst, rules}
use Rattle.fips204_base.proofs.Names.{get_or_default, residue, inverse_transform, lane, lane_at, residues, layer_shape, halved, HoldsSums, sums_start, sums_next, sums_end, inverse_layer_of_blocks, inverse_layer_sizes, count_below, factor_positive, one_changed, others_stay}
use Rattle.fips204_base.proofs.Products.{inverse_residue}
use Rattle.fips204_base.proofs.ntt.write_inv_ntt.Goals as goal

pub write_layer-requires : goal.write_layer-requires
write_layer-requires g c =
    let shape = layer_shape c.loop-s.s c.loop-s-test.true in
    let product : 2 ^ (7 - c.loop-s.s) * 2 ^ c.loop-s.s ≡ 128 = omega (arith, shape.2) in
    let whole : c.loop-s.count * c.loop-s.len ≡ 128 = rw (c.loop-s.invariant.count, c.loop-s.invariant.len, shape.0) product in
    let below = count_below (2 ^ c.loop-s.s) (2 ^ (7 - c.loop-s.s)) shape.2 in (
      search rules,
      (
        whole,
        (
          (omega (arith, c.loop-s-test.true, c.loop-s.invariant.products, c.requires.room), omega (arith, c.loop-s-test.true, c.loop-s.invariant.sums, c.requires.room)),
          λ p j d q h. omega (arith, below, c.loop-s.invariant.range p j d q h),
        ),
      ),
    )

pub loop-s-init : goal.loop-s-init
loop-s-init g c = record {
  size = c.told-w;
  count = omega arith;
  len = omega arith;
  products = omega arith;
  sums = omega arith;
  range = λ p j d q h. c.requires.range p j d q h;
  values = λ j d h. sums_start (residues g.V.Residue.lanes j d c.args.w.now);
}

pub loop-s-preserved : goal.loop-s-preserved
loop-s-preserved g c =
    let shape = layer_shape c.loop-s.s c.loop-s-test.true in
    let product : 2 ^ (7 - c.loop-s.s) * 2 ^ c.loop-s.s ≡ 128 = omega (arith, shape.2) in
    let whole : c.loop-s.count * c.loop-s.len ≡ 128 = rw (c.loop-s.invariant.count, c.loop-s.invariant.len, shape.0) product in
    let least = factor_positive (2 ^ c.loop-s.s) (2 ^ (7 - c.loop-s.s)) shape.2 in
    record {
      size = c.write_layer.ensures.size;
      count = halved c.loop-s.s c.loop-s.count c.loop-s-test.true c.loop-s.invariant.count;
      len = omega (arith, c.loop-s.invariant.len, shape.3);
      products = omega (arith, c.write_layer.ensures.products, c.loop-s.invariant.products);
      sums = omega (arith, c.write_layer.ensures.sums, c.loop-s.invariant.sums);
      range = λ p j d q h. omega (
        arith,
        shape.3,
        inverse_layer_sizes c.loop-s.count c.loop-s.len (8380416 * 2 ^ c.loop-s.s) (lane_at g.V.Residue.lanes j d c.loop-s.w) (lane_at g.V.Residue.lanes j d c.write_layer.new.w)
            whole (c.write_layer.ensures.values j d h) (omega (arith, least)) (λ a b. c.loop-s.invariant.range a j d b h) p q,
      );
      values = λ j d h. sums_next c.loop-s.s c.loop-s.count c.loop-s.len (residues g.V.Residue.lanes j d c.args.w.now) (residues g.V.Residue.lanes j d c.loop-s.w) (residues g.V.Residue.lanes j d c.write_layer.new.w)
          c.loop-s-test.true c.loop-s.invariant.count c.loop-s.invariant.len
          (inverse_layer_of_blocks c.loop-s.count c.loop-s.len (lane_at g.V.Residue.lanes j d c.loop-s.w) (lane_at g.V.Residue.lanes j d c.write_layer.new.w) (c.write_layer.ensures.values j d h)) (c.loop-s.invariant.values j d h);
    }

pub loop-i-init : goal.loop-i-init
loop-i-init g c =
    let end : c.loop-s.s ≡ 8 = omega arith in
    record {
      size = c.loop-s.invariant.size;
      done = λ p j d q h. absurd (omega (arith, q));
      ahead = λ p j d l q h. sums_end (residues g.V.Residue.lanes j d c.args.w.now) (residues g.V.Residue.lanes j d c.loop-s.w)
          (subst (λ n. HoldsSums (2 ^ (8 - n)) (2 ^ n) (residues g.V.Residue.lanes j d c.args.w.now) (residues g.V.Residue.lanes j d c.loop-s.w)) end (c.loop-s.invariant.values j d h)) p q;
    }

pub loop-i-preserved : goal.loop-i-preserved
loop-i-preserved g c =
    let inside : c.loop-i.i < length c.loop-i.w = omega (arith, c.loop-i.invariant.size, c.loop-i-test.true) in
    record {
      size = length-set _ _ _ ∙ c.loop-i.invariant.size;
      done = λ p j d q h.
          let read = get_or_default c.loop-i.w c.loop-i.i c.index-w-i.result d inside in
          let first = residues g.V.Residue.lanes j d c.args.w.now in
          one_changed (λ p z. z ≡ pos (inverse_transform (residues g.V.Residue.lanes j d c.args.w.now) p)) g.V.Residue.lanes j c.loop-i.i d _ c.loop-i.w inside (λ p q. c.loop-i.invariant.done p j d q h)
          (c.finish.ensures j h ∙ ap (λ v. pos (8347681 * residue (lane (g.V.Residue.lanes v) j) % 8380417)) read
          ∙ ap pos (inverse_residue first c.loop-i.i _ (c.loop-i.invariant.ahead c.loop-i.i j d (omega arith) c.loop-i-test.true h))) p q;
      ahead = λ p j d l q h. rw (others_stay g.V.Residue.lanes j c.loop-i.i d _ c.loop-i.w p l) (c.loop-i.invariant.ahead p j d (omega (arith, l)) q h);
    }

pub returns : goal.returns
returns g c =
    let end : c.loop-s.s ≡ 8 = omega arith in
    record {
      values = λ i j d p h. c.loop-i.invariant.done i j d (omega arith) h;
      products = omega (arith, end, c.loop-s.invariant.products);
      sums = omega (arith, end, c.loop-s.invariant.sums);
      size = c.loop-i.invariant.size;
    }
