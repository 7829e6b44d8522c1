use Rattle.std.proofs.Common.{◌≡◌, false, true, eqb, inl, inr, arith}
use Rattle.std.proofs.lemmas.Bool.{eq-eqb}
use Rattle.std.proofs.lemmas.Bool.Decides.{nat_tests}
use Rattle.fips204_shake.specs.Base64Reading.{group_at}
use Rattle.fips204_shake.proofs.Base64Symbols.{three_read, three_refused, two_read, two_refused, one_read, one_refused}
use Rattle.fips204_shake.proofs.pem.base64.group.Goals as goal
use Rattle.fips204_shake.proofs.pem.base64.group.Goals.{then-p-q-ge256-2-via-then-p-q-ge256-2, then-p-q-ge256-2-via-else-p-q-ge256-2+then-r-ne0, then-p-q-ge256-3-via-then-p-q-ge256-3, then-p-q-ge256-3-via-else-p-q-ge256-3+then-q-ne0}

pub returns-then-p-q-ge256-clause-bytes : goal.returns-then-p-q-ge256-clause-bytes
unfolding group_at
returns-then-p-q-ge256-clause-bytes c =
    let other : eqb c.args.d 61 ≡ false = grind (arith, nat_tests) in
    rw other (three_refused _ _ _ _ _ _ _ _ c.value-p.ensures.number c.value-q.ensures.number c.value-r.ensures.number c.value-s.ensures.number c.if-p-q-ge256.true)

pub returns-then-d-ne61-clause-bytes : goal.returns-then-d-ne61-clause-bytes
unfolding group_at
returns-then-d-ne61-clause-bytes c =
    let other : eqb c.args.d 61 ≡ false = grind (arith, nat_tests) in
    rw other (three_read _ _ _ _ _ _ _ _ c.value-p.ensures.number c.value-q.ensures.number c.value-r.ensures.number c.value-s.ensures.number
    c.value-p.ensures.apart c.value-q.ensures.apart c.value-r.ensures.apart c.value-s.ensures.apart c.if-p-q-ge256.false)

pub returns-then-p-q-ge256-2-clause-bytes : goal.returns-then-p-q-ge256-2-clause-bytes
unfolding group_at
returns-then-p-q-ge256-2-clause-bytes c =
    let other : eqb c.args.c 61 ≡ false = grind (arith, nat_tests) in
    let same : eqb c.args.d 61 ≡ true = eq-eqb _ _ c.if-d-ne61.false in
    rw (same, other) (two_refused _ _ _ _ _ _ c.value-p.ensures.number c.value-q.ensures.number c.value-r-then-c-ne61.ensures.number
    (elim c.then-p-q-ge256-2.branch [
      | then-p-q-ge256-2-via-then-p-q-ge256-2 w ↦ inl w.if-p-q-ge256-2.true
      | then-p-q-ge256-2-via-else-p-q-ge256-2+then-r-ne0 w ↦ inr w.if-r-ne0.true
    ]))

pub returns-then-c-ne61-clause-bytes : goal.returns-then-c-ne61-clause-bytes
unfolding group_at
returns-then-c-ne61-clause-bytes c =
    let other : eqb c.args.c 61 ≡ false = grind (arith, nat_tests) in
    let same : eqb c.args.d 61 ≡ true = eq-eqb _ _ c.if-d-ne61.false in
    rw (same, other) (two_read _ _ _ _ _ _ c.value-p.ensures.number c.value-q.ensures.number c.value-r-then-c-ne61.ensures.number
    c.value-p.ensures.apart c.value-q.ensures.apart c.value-r-then-c-ne61.ensures.apart c.if-p-q-ge256-2.false c.if-r-ne0.false)

pub returns-then-p-q-ge256-3-clause-bytes : goal.returns-then-p-q-ge256-3-clause-bytes
unfolding group_at
returns-then-p-q-ge256-3-clause-bytes c =
    let again : eqb c.args.c 61 ≡ true = eq-eqb _ _ c.if-c-ne61.false in
    let same : eqb c.args.d 61 ≡ true = eq-eqb _ _ c.if-d-ne61.false in
    rw (same, again) (one_refused _ _ _ _ c.value-p.ensures.number c.value-q.ensures.number
    (elim c.then-p-q-ge256-3.branch [
      | then-p-q-ge256-3-via-then-p-q-ge256-3 w ↦ inl w.if-p-q-ge256-3.true
      | then-p-q-ge256-3-via-else-p-q-ge256-3+then-q-ne0 w ↦ inr w.if-q-ne0.true
    ]))

pub returns-clause-bytes : goal.returns-clause-bytes
unfolding group_at
returns-clause-bytes c =
    let again : eqb c.args.c 61 ≡ true = eq-eqb _ _ c.if-c-ne61.false in
    let same : eqb c.args.d 61 ≡ true = eq-eqb _ _ c.if-d-ne61.false in
    rw (same, again) (one_read _ _ _ _ c.value-p.ensures.number c.value-q.ensures.number c.value-p.ensures.apart c.value-q.ensures.apart c.if-p-q-ge256-3.false c.if-q-ne0.false)
