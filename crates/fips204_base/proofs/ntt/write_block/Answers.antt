use Rattle.std.proofs.Common.{arith, ◌+◌, ap, ◌≡◌, ◌∙◌, nat_abs, length-set, length-take}
use Rattle.fips204_base.specs.Lanes.{lane}
use Rattle.fips204_base.proofs.Names.{lane_at, halves_none, halves_more, halves_whole}
use Rattle.fips204_base.proofs.ntt.write_block.Goals as goal

pub apply-x-requires-clause-fits : goal.apply-x-requires-clause-fits
apply-x-requires-clause-fits g c = λ j h.
    let size = λ (v : g.row.V.Denot). nat_abs (lane (g.V.Residue.lanes v) j) in
    let a = c.index-front-k in
    let b = c.index-back-k in
    let one = (c.loop-k.invariant.values j a.result h).rest c.loop-k.k (omega arith) c.loop-k-test.true in
    let two = (c.loop-k.invariant.values j b.result h).rest c.loop-k.k (omega arith) c.loop-k-test.true in (
      omega (arith, ap size a.is, ap nat_abs one.0, c.requires.fits (c.args.start + c.loop-k.k) j a.result (omega arith) (omega (arith, c.requires.inside, c.loop-k-test.true)) h),
      omega (arith, ap size b.is, ap nat_abs two.1, c.requires.fits (c.args.start + c.loop-k.k + c.args.len) j b.result (omega arith) (omega (arith, c.requires.inside, c.loop-k-test.true)) h),
    )

pub loop-k-init : goal.loop-k-init
loop-k-init g c =
    let low = c.split_at_mut-rest.ensures in
    let high = c.split_at_mut-front.ensures in
    record {
      front = high.front_len;
      back = omega (arith, length-take c.args.len c.split_at_mut-front.result.1.now, low.back_len, high.back_len, c.told-w, c.requires.inside);
      products = omega arith;
      sums = omega arith;
      values = λ j d h. rw (low.value, high.value) (halves_none (g.B.Butterfly.pair c.args.m) g.V.Residue.lanes j d _ _ _ _ _ low.front_len high.front_len);
    }

pub loop-k-preserved : goal.loop-k-preserved
loop-k-preserved g c = record {
  front = length-set _ _ _ ∙ c.loop-k.invariant.front;
  back = length-set _ _ _ ∙ c.loop-k.invariant.back;
  products = omega (arith, c.apply-x.ensures.products, c.loop-k.invariant.products);
  sums = omega (arith, c.apply-x.ensures.sums, c.loop-k.invariant.sums);
  values = λ j d h. halves_more (g.B.Butterfly.pair c.args.m) g.V.Residue.lanes j d (lane_at g.V.Residue.lanes j d c.args.w.now) c.loop-k.front c.loop-k.back c.args.start c.args.len c.loop-k.k _ _ _ _
      c.loop-k-test.true c.loop-k.invariant.front c.loop-k.invariant.back c.index-front-k.is c.index-back-k.is (c.loop-k.invariant.values j d h) (c.apply-x.ensures.values j h);
}

pub returns-clause-values : goal.returns-clause-values
returns-clause-values g c = λ j d h.
    let low = c.split_at_mut-rest.ensures in
    let high = c.split_at_mut-front.ensures in
    let whole : c.loop-k.k ≡ c.args.len = omega arith in
    rw (low.value, high.value) (halves_whole (g.B.Butterfly.pair c.args.m) g.V.Residue.lanes j d _ _ _ c.loop-k.front c.loop-k.back c.args.start c.args.len
    low.front_len high.front_len (omega (arith, low.back_len, high.back_len, c.told-w, c.requires.inside)) c.loop-k.invariant.front c.loop-k.invariant.back
    (rw (low.value, high.value, whole) at (c.loop-k.invariant.values j d h)))
