use Rattle.std.proofs.Common.{arith}
use Rattle.std.proofs.Common.{sym}
use Rattle.std.proofs.Common.{[]}
use Rattle.fips204_base.proofs.PlainTransforms.{plain-difference}
use Rattle.fips204_base.proofs.product.Transforms.subtract_multiple.Goals as goal

-- Lane r of each value is what it was less the product of the factor's value and of the other lane, so that
-- polynomial r is the difference of the polynomials.
pub returns : goal.returns
returns c =
    let factor = c.c.inside.values in
    let other = c.v.inside.values in
    let before = c.self.inside.values in
    let after = c.loop-n.self-inside.values in
    let factor_is = sym c.c.view_is in
    let other_is = sym c.v.view_is in
    let before_is = sym c.self.view_is in
    let end = c.loop-n-test.false in
    let values = c.loop-n.invariant.values in
    rw (factor_is, other_is, before_is) (λ r n h l.
    plain-difference factor other before after r n h l (λ i p.
    values i r [] (omega (arith, p, end)) h))
