use Rattle.std.proofs.Common.{ℕ, ◌<◌, arith, ap, []}
use Rattle.fips204_base.proofs.Names.{residue, residues, IsCongruent, coefficients, lane_values, vector_coefficients, plain-transformed, residue_below, congruent_of, congruent_trans, factor-transformed, back_from_mont}
use Rattle.fips204_base.proofs.Products.{transform_same}
use Rattle.fips204_base.proofs.product.Transforms.write_transforms_and_factor.Goals as goal

pub returns-clause-vector : goal.returns-clause-vector
returns-clause-vector g c = λ r n h l.
    let lane : r < 8 = omega (arith, h, c.requires.few) in
    plain-transformed (lane_values c.loop-n.self-inside.values r) c.write_lanes_ntt.new.w (vector_coefficients c.args.v.now r) r n lane l (λ i p. c.write_lanes_ntt.ensures.values i r [] p lane)
    (λ i p. ap residue (c.loop-n.invariant.values r i [] h (omega (arith, p, c.loop-n-test.false)))) (residue_below _)

pub returns-clause-factor : goal.returns-clause-factor
returns-clause-factor g c = λ n l.
    let from : (j : ℕ) → j < 256 → IsCongruent (residues (λ x. x) 7 [] c.loop-n.self-inside.values j) (coefficients c.args.c.now.0 j) =
    λ j q. congruent_of (ap residue (c.loop-n.invariant.last j [] (omega (arith, q, c.loop-n-test.false)))) in
    factor-transformed c.loop-i.values (coefficients c.args.c.now.0) (λ i p.
    congruent_trans (congruent_of (back_from_mont _ _ (c.loop-i.invariant.values i (omega (arith, p, c.loop-i-test.false))) (residue_below _)))
    (congruent_trans (c.write_lanes_ntt.ensures.values i 7 [] p (omega arith)) (congruent_of (transform_same _ (coefficients c.args.c.now.0) from i)))) n l (residue_below _)
