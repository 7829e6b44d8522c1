use Rattle.std.proofs.Common.{◌≡◌, to_z, of_z, rules}
use Rattle.std.specs.Int.{int_wrap}
use Rattle.fips204_base.proofs.Names.{w32, w64, to_z-of_z, lane, zeta_at, factor_is, factor_taken}
use Rattle.fips204_base.proofs.lanes.LanesResidue.mul_zeta.Goals as goal

pub returns-clause-value : goal.returns-clause-value
returns-clause-value c = λ j h.
    let words = c.zeta_words.result in
    let z = zeta_at c.args.m in
    let read_words : to_z w64 (of_z w64 words) ≡ words = to_z-of_z w64 words record { sfits = c.zeta_words.type_inv } in
    factor_taken (lane c.args.self j) (lane c.mont_products.result j) (int_wrap w32 words) z (factor_is _ z c.zeta_words.ensures.factor) (rw read_words at c.mont_products.ensures.congruent j h)

pub returns-clause-products_up : goal.returns-clause-products_up
returns-clause-products_up c = search rules
