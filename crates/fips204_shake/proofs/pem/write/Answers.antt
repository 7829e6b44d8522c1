use Rattle.std.proofs.Common.{◌∙◌, ◌≤◌, ℕ, List, ◌++◌, length, take, sym, ap, subst, arith}
use Rattle.std.proofs.lemmas.List.{take_all}
use Rattle.fips204_shake.specs.Base64.{IsBytes}
use Rattle.fips204_shake.specs.Pem.{Spells}
use Rattle.fips204_shake.proofs.PemTexts.{pem_put, pem_spells}
use Rattle.fips204_shake.proofs.pem.write.Goals as goal

pub returns-clause-written : goal.returns-clause-written
returns-clause-written c =
    let whole : length c.put.new.out ≤ c.put.result =
    omega (
      arith,
      c.put-first.ensures.place,
      c.put-second.ensures.place,
      c.put_lines-last.ensures.place,
      c.put-end.ensures.place,
      c.put.ensures.place,
      ap length c.begin_line.ensures,
      ap length c.end_line.ensures,
      c.requires,
    ) in
    sym (take_all c.put.result c.put.new.out whole)
    ∙ pem_put c.args.kind c.args.bytes.now _ _ _ _ _ (c.put-first.ensures.written ∙ c.begin_line.ensures) c.put-second.ensures.written c.put_lines-last.ensures.written
    (c.put-end.ensures.written ∙ ap (λ (z : List ℕ). take c.put_lines-last.result c.put_lines-last.new.text ++ z) c.end_line.ensures) c.put.ensures.written

pub returns-clause-spelled : goal.returns-clause-spelled
returns-clause-spelled c =
    let small : IsBytes c.args.bytes.now = λ k. omega (arith, c.type_inv.bytes k) in
    subst (λ (z : List ℕ). Spells z c.args.kind c.args.bytes.now) (sym (returns-clause-written c)) (pem_spells c.args.kind c.args.bytes.now small)
