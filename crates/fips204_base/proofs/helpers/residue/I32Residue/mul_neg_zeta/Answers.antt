use Rattle.std.proofs.Common.{◌≡◌, ◌*◌, to_z, of_z, neg_ℤ, pos, ◌-ℤ◌, arith, ◌∙◌, ap}
use Rattle.fips204_base.proofs.Names.{w32, ints, to_z-of_z, residue, IsCongruent, zeta_at, congruent_of, congruent_trans, only_lane, minus_factor_is, factor_taken}
use Rattle.fips204_base.proofs.helpers.residue.I32Residue.mul_neg_zeta.Goals as goal

pub returns-clause-value : goal.returns-clause-value
returns-clause-value c =
    let x = c.args.self in
    let r = c.mont_product.result in
    let zeta = c.zeta_mont.result in
    let factor = to_z w32 (of_z w32 (pos 0 -ℤ to_z w32 (of_z w32 zeta))) in
    let z = zeta_at c.args.m in
    let minus : factor ≡ neg_ℤ zeta = omega (arith, ints, c.zeta_mont.ensures) in
    let read_x : to_z w32 (of_z w32 x) ≡ x = to_z-of_z w32 x c.ranges.self in
    let s = rw read_x at c.mont_product.ensures.congruent in
    only_lane (λ a b. IsCongruent (residue b) (8380416 * (z * residue a))) x r (to_z w32 (of_z w32 r)) (to_z-of_z w32 r record { sfits = c.mont_product.type_inv })
    (congruent_trans (factor_taken x r factor (8380416 * z) (minus_factor_is factor z (minus ∙ ap neg_ℤ c.zeta_mont.ensures)) s) (congruent_of (omega arith)))
