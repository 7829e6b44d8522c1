use Rattle.std.proofs.Common.{◌≡◌, arith, to_z, of_z}
use Rattle.fips204_base.proofs.Names.{w32, w64, to_z-of_z, residue, from_mont, lane, residue_below, factor_taken}
use Rattle.fips204_base.proofs.lanes.Lanes.times.Goals as goal

pub returns-clause-value : goal.returns-clause-value
returns-clause-value c = λ j h.
    let x = lane c.args.self j in
    let r = lane c.mont_products.result j in
    let words = c.factor_words.result in
    let read_words : to_z w64 (of_z w64 words) ≡ words = to_z-of_z w64 words record { sfits = c.factor_words.type_inv } in
    let given : to_z w32 (of_z w32 c.args.factor) ≡ c.args.factor = to_z-of_z w32 c.args.factor c.ranges.factor in
    let s = rw (read_words, rw given at c.factor_words.ensures.factor) at c.mont_products.ensures.congruent j h in
    let product = factor_taken x r c.args.factor (from_mont (residue c.args.factor)) record { same = omega arith } s in
    let below = residue_below r in
    omega (arith, product.same, below)
