use Rattle.std.proofs.Common.{◌≡◌, ◌*◌, to_z, of_z, rules}
use Rattle.fips204_base.proofs.Names.{w32, to_z-of_z, residue, IsCongruent, zeta_at, only_lane, factor_is, factor_taken}
use Rattle.fips204_base.proofs.helpers.residue.I32Residue.mul_zeta.Goals as goal

pub returns-clause-value : goal.returns-clause-value
returns-clause-value c =
    let x = c.args.self in
    let r = c.mont_product.result in
    let factor = c.zeta_mont.result in
    let z = zeta_at c.args.m in
    let read_x : to_z w32 (of_z w32 x) ≡ x = to_z-of_z w32 x c.ranges.self in
    let read_factor : to_z w32 (of_z w32 factor) ≡ factor = to_z-of_z w32 factor record { sfits = c.zeta_mont.type_inv } in
    let s = rw (read_x, read_factor) at c.mont_product.ensures.congruent in
    only_lane (λ a b. IsCongruent (residue b) (z * residue a)) x r (to_z w32 (of_z w32 r)) (to_z-of_z w32 r record { sfits = c.mont_product.type_inv })
    (factor_taken x r factor z (factor_is factor z c.zeta_mont.ensures) s)

pub returns-clause-products_up : goal.returns-clause-products_up
returns-clause-products_up c = search rules
