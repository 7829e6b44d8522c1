use Rattle.std.proofs.Common.{◌≡◌, ◌++◌, ◌∙◌, ap, sym, arith, rules, length, take, drop}
use Rattle.fips204_base.proofs.Names.{take-append-drop, length-take-le}
use Rattle.fips204_base.proofs.encodings.write_public_key_parts.Goals as goal

pub returns-clause-same_bytes : goal.returns-clause-same_bytes
returns-clause-same_bytes g c =
    let first : c.unwrap.result.0.now ≡ take 32 c.args.pk.now = search rules in
    let rest : c.unwrap.result.1.now ≡ drop 32 c.args.pk.now = search rules in
    sym (ap (λ l. l ++ drop 32 c.args.pk.now) first ∙ take-append-drop 32 c.args.pk.now)
    ∙ ap (λ l. c.unwrap.result.0.now ++ l) (sym rest ∙ sym c.write_unpacked_vector.ensures.same_bytes)

pub returns-clause-seed : goal.returns-clause-seed
returns-clause-seed g c =
    let first : c.unwrap.result.0.now ≡ take 32 c.args.pk.now = search rules in
    ap length first ∙ length-take-le 32 c.args.pk.now (omega (arith, c.requires))
