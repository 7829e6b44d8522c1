use Rattle.std.proofs.Common.{[], get_or, length-set, ◌∙◌, arith, rules}
use Rattle.fips204_base.proofs.Names.{get_or_default, IsInverse, row_written, rows_ahead}
use Rattle.fips204_base.proofs.ntt.inv_ntt.Goals as goal

pub write_inv_ntt-requires : goal.write_inv_ntt-requires
write_inv_ntt-requires g c =
    let before = c.loop-row.invariant.rest c.loop-row.row [] (omega arith) in (
      search rules,
      (
        (omega (arith, c.loop-row-test.true, c.loop-row.invariant.products, c.requires.room), omega (arith, c.loop-row-test.true, c.loop-row.invariant.sums, c.requires.room)),
        λ i j d p q. rw before (c.requires.range c.loop-row.row [] c.loop-row-test.true i j d p q),
      ),
    )

pub loop-row-preserved : goal.loop-row-preserved
loop-row-preserved g c = record {
  size = length-set _ _ _ ∙ c.loop-row.invariant.size;
  products = omega (arith, c.write_inv_ntt.ensures.products, c.loop-row.invariant.products);
  sums = omega (arith, c.write_inv_ntt.ensures.sums, c.loop-row.invariant.sums);
  rest = rows_ahead c.args.w_hat.now c.loop-row.out c.loop-row.row _ c.loop-row.invariant.rest;
  values = λ r d h. row_written (λ r a. IsInverse g.V.Residue.lanes g.V.Residue.width (get_or c.args.w_hat.now r d) a)
      c.loop-row.out c.loop-row.row _ d (omega (arith, c.loop-row-test.true, c.loop-row.invariant.size)) (λ r h. c.loop-row.invariant.values r d h)
      (λ i j e p q. rw (c.loop-row.invariant.rest c.loop-row.row [] (omega arith), get_or_default c.args.w_hat.now c.loop-row.row [] d (omega (arith, c.loop-row-test.true, c.told-w_hat))) at (c.write_inv_ntt.ensures.values i j e p q)) r h;
}
