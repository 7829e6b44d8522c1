use Rattle.std.proofs.Common.{◌≡◌, ◌-◌, ◌+◌, ◌*◌, ◌∙◌, [], ◌∷◌, ap, sym, inl, inr, pos, slice_index_or, arith}
use Rattle.std.proofs.lemmas.Bool.{cases_lt}
use Rattle.fips204_base.specs.SamplerSteps.{number}
use Rattle.fips204_base.proofs.Names.{number-front, number-piece}
use Rattle.fips204_base.proofs.hashing.matrix.write_numbers.Goals as goal

pub loop-n-preserved : goal.loop-n-preserved
loop-n-preserved c = λ p d h.
    let n = c.loop-n.n in
    let four = c.write_four_numbers in
    elim (cases_lt p (4 * n)) [
      | inl before ↦ four.ensures.others p d before ∙ c.loop-n.invariant p d before
      | inr from ↦
          let j = p - 4 * n in
          let at : 4 * n + j ≡ p = omega (arith, from) in
          ap (λ q. slice_index_or four.new.values q d) (sym at)
          ∙ four.ensures.written j d (omega (arith, h, from))
          ∙ ap pos (sym (number-piece c.args.triples.now (12 * n) (4 * n) (12 * n + 16 - 12 * n) j (omega arith) (omega (arith, h, from))))
          ∙ ap (λ q. pos (number c.args.triples.now q)) at
    ]

pub returns : goal.returns
returns c = λ p d h.
    let four = c.write_four_numbers-2 in
    elim (cases_lt p 252) [
      | inl before ↦ four.ensures.others p d before ∙ c.loop-n.invariant p d (omega (arith, before, c.loop-n-test.false))
      | inr from ↦
          let j = p - 252 in
          let at : 252 + j ≡ p = omega (arith, from) in
          ap (λ q. slice_index_or four.new.values q d) (sym at)
          ∙ four.ensures.written j d (omega (arith, h, from))
          ∙ ap pos (number-front c.copy_from_slice.new.self (0 ∷ 0 ∷ 0 ∷ 0 ∷ []) j (omega (arith, h, from, c.copy_from_slice.ensures.len)))
          ∙ ap (λ l. pos (number l j)) c.copy_from_slice.ensures.after
          ∙ ap pos (sym (number-piece c.args.triples.now 756 252 12 j (omega arith) (omega (arith, h, from))))
          ∙ ap (λ q. pos (number c.args.triples.now q)) at
    ]
