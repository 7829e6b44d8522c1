use Rattle.std.proofs.Common.{arith, ap, length, length-set, ◌∙◌, ◌<◌, ◌≤◌, ◌≡◌, ◌*◌, ◌^◌, ◌-◌, ◌+◌, subst, rules}
use Rattle.fips204_base.proofs.Names.{nat_abs, get_or_default, residue, IsCongruent, transform, pow_below, lane, lane_at, residues, KeepsValues, values_start, values_next, values_end, layer_shape, halved, layer_of_blocks, layer_sizes, one_changed, others_stay, congruent_of, congruent_trans}
use Rattle.fips204_base.proofs.ntt.write_ntt.Goals as goal

pub write_layer-requires : goal.write_layer-requires
write_layer-requires g c =
    let shape = layer_shape c.loop-s.s c.loop-s-test.true in
    let whole : c.loop-s.count * c.loop-s.len ≡ 128 = rw (c.loop-s.invariant.count, c.loop-s.invariant.len, shape.0) shape.2 in (
      search rules,
      (
        whole,
        (
          (omega (arith, c.loop-s-test.true, c.loop-s.invariant.products, c.requires.room), omega (arith, c.loop-s-test.true, c.loop-s.invariant.sums, c.requires.room)),
          λ p j d q h. omega (arith, c.loop-s-test.true, c.loop-s.invariant.range p j d q h),
        ),
      ),
    )

pub overflow_mul-count : goal.overflow_mul-count
overflow_mul-count g c = let below = pow_below c.loop-s.s 8 c.loop-s-test.true in omega (arith, c.loop-s.invariant.count, below)

pub loop-s-init : goal.loop-s-init
loop-s-init g c = record {
  size = c.told-w;
  count = omega arith;
  len = omega arith;
  products = omega arith;
  sums = omega arith;
  range = λ p j d q h. c.requires.range p j d q h;
  values = λ j d h. values_start (residues g.V.Residue.lanes j d c.args.w.now);
}

pub loop-s-preserved : goal.loop-s-preserved
loop-s-preserved g c =
    let shape = layer_shape c.loop-s.s c.loop-s-test.true in
    let whole : c.loop-s.count * c.loop-s.len ≡ 128 = rw (c.loop-s.invariant.count, c.loop-s.invariant.len, shape.0) shape.2 in
    record {
      size = c.write_layer.ensures.size;
      count = omega (arith, c.loop-s.invariant.count, shape.3);
      len = halved c.loop-s.s c.loop-s.len c.loop-s-test.true c.loop-s.invariant.len;
      products = omega (arith, c.write_layer.ensures.products, c.loop-s.invariant.products);
      sums = omega (arith, c.write_layer.ensures.sums, c.loop-s.invariant.sums);
      range = λ p j d q h. omega (
        arith,
        layer_sizes c.loop-s.count c.loop-s.len (8380416 * (c.loop-s.s + 1)) (lane_at g.V.Residue.lanes j d c.loop-s.w) (lane_at g.V.Residue.lanes j d c.write_layer.new.w)
            whole (c.write_layer.ensures.values j d h) (λ a b. c.loop-s.invariant.range a j d b h) p q,
      );
      values = λ j d h. values_next c.loop-s.s c.loop-s.count c.loop-s.len (residues g.V.Residue.lanes j d c.args.w.now) (residues g.V.Residue.lanes j d c.loop-s.w) (residues g.V.Residue.lanes j d c.write_layer.new.w)
          c.loop-s-test.true c.loop-s.invariant.count c.loop-s.invariant.len
          (layer_of_blocks c.loop-s.count c.loop-s.len (lane_at g.V.Residue.lanes j d c.loop-s.w) (lane_at g.V.Residue.lanes j d c.write_layer.new.w) (c.write_layer.ensures.values j d h)) (c.loop-s.invariant.values j d h);
    }

pub loop-i-init : goal.loop-i-init
loop-i-init g c =
    let end : c.loop-s.s ≡ 8 = omega arith in
    record {
      size = c.loop-s.invariant.size;
      done = λ p j d q h. absurd (omega (arith, q));
      ahead = λ p j d l q h. (
        values_end (residues g.V.Residue.lanes j d c.args.w.now) (residues g.V.Residue.lanes j d c.loop-s.w)
            (subst (λ n. KeepsValues (2 ^ n) (2 ^ (8 - n)) (residues g.V.Residue.lanes j d c.args.w.now) (residues g.V.Residue.lanes j d c.loop-s.w)) end (c.loop-s.invariant.values j d h)) p q,
        omega (arith, end, c.loop-s.invariant.range p j d q h),
      );
    }

pub loop-i-preserved : goal.loop-i-preserved
loop-i-preserved g c =
    let inside : c.loop-i.i < length c.loop-i.w = omega (arith, c.loop-i.invariant.size, c.loop-i-test.true) in
    record {
      size = length-set _ _ _ ∙ c.loop-i.invariant.size;
      done = λ p j d q h.
          let read = get_or_default c.loop-i.w c.loop-i.i c.index-w-i.result d inside in
          let old = c.loop-i.invariant.ahead c.loop-i.i j d (omega arith) c.loop-i-test.true h in
          one_changed (λ p z. IsCongruent (residue z) (transform (residues g.V.Residue.lanes j d c.args.w.now) p) × (nat_abs z ≤ 8380416)) g.V.Residue.lanes j c.loop-i.i d _ c.loop-i.w inside
          (λ p q. c.loop-i.invariant.done p j d q h)
          (congruent_trans (congruent_of (c.reduce.ensures.value j h ∙ ap (λ v. residue (lane (g.V.Residue.lanes v) j)) read)) old.0, c.reduce.ensures.small j h) p q;
      ahead = λ p j d l q h. rw (others_stay g.V.Residue.lanes j c.loop-i.i d _ c.loop-i.w p l) (c.loop-i.invariant.ahead p j d (omega (arith, l)) q h);
    }

pub returns : goal.returns
returns g c =
    let end : c.loop-s.s ≡ 8 = omega arith in
    record {
      values = λ i j d p h. (c.loop-i.invariant.done i j d (omega arith) h).0;
      small = λ i j d p h. (c.loop-i.invariant.done i j d (omega arith) h).1;
      products = omega (arith, end, c.loop-s.invariant.products);
      sums = omega (arith, end, c.loop-s.invariant.sums);
      size = c.loop-i.invariant.size;
    }
