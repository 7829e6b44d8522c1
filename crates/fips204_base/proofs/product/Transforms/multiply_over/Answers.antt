use Rattle.std.proofs.Common.{◌∙◌, arith, ap, sym, [], get_or}
use Rattle.fips204_base.proofs.Names.{matrix_product, row_product, plain-row, plain-values, plain_row, residue, row-same, vector_coefficients}
use Rattle.fips204_base.specs.PlainTransforms.{plain_vector}
use Rattle.fips204_base.proofs.product.Transforms.multiply_over.Goals as goal

pub returns : goal.returns
unfolding matrix_product row_product
returns g c = rw (sym c.self.view_is) (λ r n h l.
    let row = get_or c.args.a.now r [] in
    let before = c.self.inside.values in
    plain-row g.row.L row c.write_values.new.out c.loop-n.self-inside.values r n (omega (arith, h, c.requires.shape.0)) l (λ i p.
    ap residue (c.loop-n.invariant.values r i [] h (omega (arith, p, c.loop-n-test.false))) ∙ c.loop-r.invariant.values r i (omega (arith, h, c.loop-r-test.false)) p)
    ∙ row-same g.row.L (plain_row row) (plain_row c.write_values.new.out) (vector_coefficients (plain_vector before)) n (λ k j i p.
    plain-values c.write_values.new.out before k j (omega (arith, i, c.requires.shape.1)) p (λ m q. c.write_values.ensures.values k m i q)) l)
