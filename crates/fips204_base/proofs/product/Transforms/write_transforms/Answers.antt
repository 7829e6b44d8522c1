use Rattle.std.proofs.Common.{◌<◌, arith, ap, []}
use Rattle.fips204_base.proofs.Names.{residue, lane_values, vector_coefficients, plain-transformed, residue_below}
use Rattle.fips204_base.proofs.product.Transforms.write_transforms.Goals as goal

pub returns : goal.returns
returns g c = λ r n h l.
    let lane : r < 8 = omega (arith, h, c.requires.few) in
    plain-transformed (lane_values c.loop-n.self-inside.values r) c.write_lanes_ntt.new.w (vector_coefficients c.args.v.now r) r n lane l (λ i p. c.write_lanes_ntt.ensures.values i r [] p lane)
    (λ i p. ap residue (c.loop-n.invariant.values r i [] h (omega (arith, p, c.loop-n-test.false)))) (residue_below _)
