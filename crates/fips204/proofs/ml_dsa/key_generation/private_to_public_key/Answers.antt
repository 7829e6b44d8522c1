use Rattle.std.proofs.Common.{rules, ◌≡◌, ◌∙◌, sym, subst, Ok, Err}
use Rattle.fips204.proofs.Names.{SamplingLimit, PublicParts, PrivateParts, derived, set_of}
use Rattle.fips204.proofs.ParameterSets.{known-set, parts_at_set}
use Rattle.fips204.proofs.KeyGeneration.{derived-none, derived-some}
use Rattle.fips204.proofs.ml_dsa.key_generation.private_to_public_key.Goals as goal

pub write_key_parts-requires : goal.write_key_parts-requires
write_key_parts-requires g c =
    let parts = parts_at_set (set_of c.args.p.now) _ _ _ (known-set c.args.p.now (search rules)) c.requires.rows c.sk.invariant in
    (search rules, (search rules, (c.requires.rows, (c.requires.columns, (parts.s1, parts.s2)))))

pub returns-in_err-write_key_parts : goal.returns-in_err-write_key_parts
returns-in_err-write_key_parts g c =
    let refused : c.from_residual.result ≡ Err SamplingLimit = search rules in
    refused ∙ subst (λ (sk : PrivateParts). Err SamplingLimit ≡ derived (set_of c.args.p.now) g.G.Xof.front sk) c.sk.view_is
    (sym (derived-none (set_of c.args.p.now) g.G.Xof.front _ c.in_err-write_key_parts.ensures.values.0))

pub invariant_of-result : goal.invariant_of-result
invariant_of-result g c = record { rho = search rules; tr = search rules; t1 = c.in_ok-write_key_parts.ensures.high }

pub returns : goal.returns
returns g c =
    let sampled = c.in_ok-write_key_parts.ensures.values in
    subst (λ (sk : PrivateParts). Ok (let pk : PublicParts = record { rho = c.sk.inside.rho; tr = c.sk.inside.tr; t1 = c.write_key_parts.new.t1 } in pk) ≡ derived (set_of c.args.p.now) g.G.Xof.front sk) c.sk.view_is
    (sym (derived-some (set_of c.args.p.now) g.G.Xof.front _ sampled.0 c.write_key_parts.new.t1 sampled.1 sampled.2.0))
