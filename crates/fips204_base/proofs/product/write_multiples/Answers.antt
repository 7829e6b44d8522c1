use Rattle.std.proofs.Common.{◌+◌, ◌∙◌, ap, pos, arith, sym, []}
use Rattle.fips204_base.proofs.Names.{lane_values}
use Rattle.fips204_base.proofs.PlainTransforms.{plain-multiple}
use Rattle.fips204_base.proofs.product.write_multiples.Goals as goal

-- Lane r of each value is the product of the factor's value and of lane r of the first, and lane 4 + r that of lane r of the
-- second: so are the polynomials.
pub returns-clause-first : goal.returns-clause-first
returns-clause-first c =
    let factor_is = sym c.c.view_is in
    let other_is = sym c.v.view_is in
    rw (factor_is, other_is) (λ r n h l. c.write_lanes_inv_ntt.ensures.values n r [] l (omega (arith, h)) ∙ ap pos (
    plain-multiple c.c.inside.values c.v.inside.values (lane_values c.loop-n.out r) r n (omega (arith, h)) l (λ i p.
    c.loop-n.invariant.first i r [] (omega (arith, p, c.loop-n-test.false)) h)))

pub returns-clause-second : goal.returns-clause-second
returns-clause-second c =
    let factor_is = sym c.c.view_is in
    let other_is = sym c.u.view_is in
    rw (factor_is, other_is) (λ r n h l. c.write_lanes_inv_ntt.ensures.values n (4 + r) [] l (omega (arith, h)) ∙ ap pos (
    plain-multiple c.c.inside.values c.u.inside.values (lane_values c.loop-n.out (4 + r)) r n (omega (arith, h)) l (λ i p.
    c.loop-n.invariant.second i r [] (omega (arith, p, c.loop-n-test.false)) h)))
