use Rattle.std.proofs.Common.{rules, ◌≡◌, ◌+◌, ◌*◌, ◌∙◌, ◌&&◌, ap, sym, IsTrue, Ok, Err, subst, ◌↔◌}
use Rattle.fips204.proofs.Names.{SamplingLimit, PrivateParts, TellsPair, key_hash, derived, set_of}
use Rattle.fips204.proofs.KeyGeneration.{derived-none}
use Rattle.fips204.proofs.ParameterSets.{known-set, parts_at_set}
use Rattle.fips204.proofs.Ranges.{vectors_eq-Decides}
use Rattle.fips204.proofs.WholeKeys.{tells_pair}
use Rattle.fips204.proofs.ml_dsa.whole.is_pair.Given.{Over}
use Rattle.fips204.proofs.ml_dsa.whole.is_pair.Goals.{After-eq-own}
use Rattle.fips204.proofs.ml_dsa.whole.is_pair.Goals as goal

pub write_key_parts-requires : goal.write_key_parts-requires
write_key_parts-requires g c =
    let parts = parts_at_set (set_of c.args.p.now) _ _ _ (known-set c.args.p.now (search rules)) c.requires.rows c.sk.invariant in
    (search rules, (search rules, (c.requires.rows, (c.requires.columns, (parts.s1, parts.s2)))))

pub returns-in_err-write_key_parts : goal.returns-in_err-write_key_parts
returns-in_err-write_key_parts g c =
    let refused : c.from_residual.result ≡ Err SamplingLimit = search rules in
    rw refused (subst (λ (sk : PrivateParts). derived (set_of c.args.p.now) g.G.Xof.front sk ≡ Err SamplingLimit) c.sk.view_is
    (derived-none (set_of c.args.p.now) g.G.Xof.front _ c.in_err-write_key_parts.ensures.values.0))

pub pk_encode-pk-requires : goal.pk_encode-pk-requires
pk_encode-pk-requires g c =
    let size : g.row.PK_LEN ≡ 32 + 320 * g.row.K = c.requires.size ∙ ap (λ k. 32 + 320 * k) (sym c.requires.rows) in
    (search rules, (search rules, (size, c.in_ok-write_key_parts.ensures.high.range)))

tells : (g : Over) (c : After-eq-own g) → TellsPair (set_of c.args.p.now) g.H.Xof.front g.G.Xof.front c.args.sk.now (Ok (c.eq-whole.result && c.eq-own.result))
tells g c =
    let p = set_of c.args.p.now in
    let known = known-set c.args.p.now (search rules) in
    let parts = rw (c.requires.rows, c.requires.columns) at (parts_at_set p _ _ _ known c.requires.rows c.sk.invariant) in
    let sampled = c.in_ok-write_key_parts.ensures.values in
    let hash : c.hash-tr.result ≡ key_hash g.H.Xof.front c.sk.inside.rho c.write_key_parts.new.t1 = search rules in
    let same : IsTrue c.eq-own.result ↔ (c.sk.inside.tr ≡ c.hash-tr.result) = search rules in
    subst (λ (sk : PrivateParts). TellsPair p g.H.Xof.front g.G.Xof.front sk (Ok (c.eq-whole.result && c.eq-own.result))) c.sk.view_is
    (tells_pair p g.H.Xof.front g.G.Xof.front _ sampled.0 c.write_key_parts.new.t1 c.write_key_parts.new.t0 c.hash-tr.result c.eq-whole.result c.eq-own.result known parts
    sampled.1 sampled.2.0 sampled.2.1 hash (vectors_eq-Decides _ _ _ c.eq-whole.ensures) same)

pub returns-then-whole : goal.returns-then-whole
returns-then-whole g c = rw c.if-whole.true at (tells g (goal.at.returns-then-whole g c).After-eq-own)

pub returns-else-whole : goal.returns-else-whole
returns-else-whole g c = rw c.if-whole.false (rw c.if-whole.false at (tells g (goal.at.returns-else-whole g c).After-eq-own))
