use Rattle.std.proofs.Common.{arith, sym, []}
use Rattle.fips204_base.proofs.Names.{plain-row}
use Rattle.fips204_base.proofs.PlainTransforms.{plain-same}
use Rattle.fips204_base.proofs.product.Transforms.write_row_product.Goals as goal

-- Lane r of each value is the sum of the products of the row with the transforms, so that polynomial r is the product of the
-- plain row with the vector.
pub returns-clause-product : goal.returns-clause-product
returns-clause-product g c = λ n l.
    plain-row g.row.L c.args.row.now c.args.v.now c.loop-n.self-inside.values c.args.r n c.requires.shape.0 l (λ i p.
    c.loop-n.invariant.values i [] (omega (arith, p, c.loop-n-test.false)))

-- The other lanes stay, and so do their polynomials.
pub returns-clause-kept : goal.returns-clause-kept
returns-clause-kept g c =
    let before = c.self.inside.values in
    let later = c.loop-n.self-inside.values in
    let before_is = sym c.self.view_is in
    let others = c.loop-n.invariant.others in
    rw before_is (λ i n other h l.
    plain-same before later i n h l (λ j p. others j i [] p other))
