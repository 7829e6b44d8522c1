use Rattle.std.proofs.Common.{arith}
use Rattle.std.proofs.Common.{◌∙◌, ap, pos, sym}
use Rattle.std.proofs.Common.{[]}
use Rattle.fips204_base.proofs.PlainTransforms.{plain-multiple}
use Rattle.fips204_base.specs.PlainTransforms.{lane_values}
use Rattle.fips204_base.proofs.product.write_multiple.Goals as goal

-- Lane r of each value is the product of the factor's value and of that lane, so that polynomial r is the product of the
-- polynomials.
pub returns : goal.returns
returns c =
    let factor = c.c.inside.values in
    let other = c.v.inside.values in
    let after = c.loop-n.out in
    let factor_is = sym c.c.view_is in
    let other_is = sym c.v.view_is in
    let end = c.loop-n-test.false in
    let values = c.loop-n.invariant.values in
    let inverse = c.write_lanes_inv_ntt.ensures.values in
    rw (factor_is, other_is) (λ r n h l. inverse n r [] l h ∙ ap pos (
    plain-multiple factor other (lane_values after r) r n h l (λ i p.
    values i r [] (omega (arith, p, end)) h)))
