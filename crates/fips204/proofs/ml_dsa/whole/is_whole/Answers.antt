use Rattle.std.proofs.Common.{rules, subst, IsTrue, None, ◌≢◌, ◌↔◌}
use Rattle.fips204.proofs.Names.{sampled_matrix, PrivateParts, IsWhole, set_of}
use Rattle.fips204.proofs.Ranges.{vectors_eq-Decides}
use Rattle.fips204.proofs.KeyGeneration.{tells_whole}
use Rattle.fips204.proofs.ParameterSets.{known-set, parts_at_set}
use Rattle.fips204.proofs.ml_dsa.whole.is_whole.Goals as goal

pub write_key_parts-requires : goal.write_key_parts-requires
write_key_parts-requires g c =
    let parts = parts_at_set (set_of c.args.p.now) _ _ _ (known-set c.args.p.now (search rules)) c.requires.rows c.sk.invariant in
    (search rules, (search rules, (c.requires.rows, (c.requires.columns, (parts.s1, parts.s2)))))

pub returns : goal.returns
returns g c =
    let p = set_of c.args.p.now in
    let sampled = c.in_ok-write_key_parts.ensures.values in
    subst (λ (sk : PrivateParts). (sampled_matrix g.G.Xof.front sk.rho p.k p.l ≢ None) × (IsTrue c.eq.result ↔ IsWhole p g.G.Xof.front sk)) c.sk.view_is
    (tells_whole p g.G.Xof.front _ sampled.0 c.write_key_parts.new.t0 c.eq.result sampled.1 sampled.2.1 (vectors_eq-Decides _ _ _ c.eq.ensures))
