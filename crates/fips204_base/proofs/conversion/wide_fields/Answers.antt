use Rattle.std.proofs.Common.{◌∙◌, ◌≡◌, ◌<◌, ◌+◌, ℕ, List, ap, arith, get_or, take, drop, inl, inr}
use Rattle.std.proofs.lemmas.List.{get_or-take, get_or-drop}
use Rattle.std.proofs.lemmas.List.FromFn.{get_or-map-range_with_len}
use Rattle.fips204_base.proofs.Names.{wide_field, wide-piece}
use Rattle.fips204_base.proofs.conversion.wide_fields.Goals as goal

-- a byte of sixteen that were read
read : (n i : ℕ) (v : List ℕ) → i < 16 → get_or (take 16 (drop n v)) i 0 ≡ get_or v (n + i) 0
read n i v h = get_or-take 16 (drop n v) i 0 h ∙ get_or-drop n v i 0

pub returns-then-c-eq18-clause-first : goal.returns-then-c-eq18-clause-first
returns-then-c-eq18-clause-first c = λ n h.
    rw (c.four_of_18.ensures, c.if-c-eq18.true) (get_or-map-range_with_len (wide_field 18 _) 0 4 n n 0 h (omega arith)
    ∙ wide-piece 18 16 0 n n _ c.args.v.now (λ i l. read 0 i c.args.v.now l) (omega (arith, h)) (omega arith) (omega arith))

pub returns-then-c-eq18-clause-last : goal.returns-then-c-eq18-clause-last
returns-then-c-eq18-clause-last c = λ n h.
    rw (c.four_of_18-then-c-eq18.ensures, c.if-c-eq18.true) (get_or-map-range_with_len (wide_field 18 _) 0 4 n n 0 h (omega arith)
    ∙ wide-piece 18 9 9 n (4 + n) _ c.args.v.now (λ i l. c.last_nine.ensures i l ∙ read 2 (7 + i) c.args.v.now (omega (arith, l)) ∙ ap (λ k. get_or c.args.v.now k 0) (omega arith))
    (omega (arith, h)) (omega arith) (omega arith))

pub returns-clause-first : goal.returns-clause-first
returns-clause-first c = λ n h.
    let wide : c.args.c ≡ 20 = elim c.requires.wide [ inl e ↦ absurd (c.if-c-eq18.false e) | inr e ↦ e ] in
    rw (c.four_of_20.ensures, wide) (get_or-map-range_with_len (wide_field 20 _) 0 4 n n 0 h (omega arith)
    ∙ wide-piece 20 16 0 n n _ c.args.v.now (λ i l. read 0 i c.args.v.now l) (omega (arith, h)) (omega arith) (omega arith))

pub returns-clause-last : goal.returns-clause-last
returns-clause-last c = λ n h.
    let wide : c.args.c ≡ 20 = elim c.requires.wide [ inl e ↦ absurd (c.if-c-eq18.false e) | inr e ↦ e ] in
    rw (c.four_of_20-2.ensures, wide) (get_or-map-range_with_len (wide_field 20 _) 0 4 n n 0 h (omega arith)
    ∙ wide-piece 20 10 10 n (4 + n) _ c.args.v.now (λ i l. c.last_ten.ensures i l ∙ read 4 (6 + i) c.args.v.now (omega (arith, l)) ∙ ap (λ k. get_or c.args.v.now k 0) (omega arith))
    (omega (arith, h)) (omega arith) (omega arith))
