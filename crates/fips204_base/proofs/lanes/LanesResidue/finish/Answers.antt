use Rattle.std.proofs.Common.{◌≡◌, ◌*◌, ◌%◌, to_z, of_z, pos, arith, ap, refl, ◌∙◌}
use Rattle.fips204_base.proofs.Names.{w64, to_z-of_z, residue, IsCongruent, lane, residue_below, factor_taken}
use Rattle.fips204_base.proofs.lanes.LanesResidue.finish.Goals as goal

pub returns : goal.returns
returns c = λ j h.
    let x = lane c.args.self j in
    let near = lane c.mont_products.result j in
    let words = c.factor_words.result in
    let read_words : to_z w64 (of_z w64 words) ≡ words = to_z-of_z w64 words record { sfits = c.factor_words.type_inv } in
    let s = rw (read_words, c.factor_words.ensures.factor) at c.mont_products.ensures.congruent j h in
    let value : IsCongruent (residue near) (8347681 * residue x) = factor_taken x near (pos 16382) 8347681 record { same = refl } s in
    let below = residue_below near in
    let is : residue near ≡ 8347681 * residue x % 8380417 = omega (arith, value.same, below) in
    c.add_q_if_negative.ensures j h ∙ ap pos is
