use Rattle.std.proofs.Common.{rules, ◌≡◌, ◌∙◌, ap, sym, refl, subst, arith, Err, Some, None}
use Rattle.fips204.proofs.Names.{PrivateParts, ArePrivateParts, sampled_matrix, SamplingLimit, set_of}
use Rattle.fips204.proofs.ParameterSets.{limits, known-set, parts_at_set}
use Rattle.fips204.proofs.Signing.{sign-by_matrix, sign-no_matrix}
use Rattle.fips204.proofs.Writing.{writes_nothing}
use Rattle.fips204.proofs.ml_dsa.signing.write_signature.Goals as goal

pub prove-unreachable-requires : goal.prove-unreachable-requires
prove-unreachable-requires g c =
    let known = limits c.args.p.now (search rules) in
    omega (arith, c.requires.sizes.rows, c.requires.sizes.columns, known.few_rows, known.few_columns)

pub returns-in_err-write_expanded_a-clause-answer : goal.returns-in_err-write_expanded_a-clause-answer
returns-in_err-write_expanded_a-clause-answer g c =
    let p = set_of c.args.p.now in
    let refused : c.from_residual.result ≡ Err SamplingLimit = search rules in
    let same : c.sk.inside.rho ≡ c.args.sk.now.rho = search rules in
    let there : sampled_matrix g.G.Xof.front c.args.sk.now.rho p.k p.l ≡ None = rw (same, c.requires.sizes.rows, c.requires.sizes.columns) at c.in_err-write_expanded_a.ensures.values.0 in
    writes_nothing _ _ _ _ _ (sign-no_matrix p g.H.Xof.front g.G.Xof.front c.args.sk.now c.args.mu.now c.args.rnd.now there) refl refused

pub returns-in_err-write_expanded_a-clause-parts : goal.returns-in_err-write_expanded_a-clause-parts
returns-in_err-write_expanded_a-clause-parts g c =
    let p = set_of c.args.p.now in
    subst (λ (k : PrivateParts). ArePrivateParts p.eta g.row.K g.row.L k) c.sk.view_is (parts_at_set p _ _ _ (known-set c.args.p.now (search rules)) c.requires.sizes.rows c.sk.invariant)

pub returns-clause-answer : goal.returns-clause-answer
returns-clause-answer g c =
    let p = set_of c.args.p.now in
    let a = c.write_expanded_a.new.matrix in
    let sampled = c.in_ok-write_expanded_a.ensures.values in
    let same : c.sk.inside.rho ≡ c.args.sk.now.rho = search rules in
    let there : sampled_matrix g.G.Xof.front c.args.sk.now.rho p.k p.l ≡ Some a = rw (same, c.requires.sizes.rows, c.requires.sizes.columns) at (sampled.1 ∙ ap Some (sym sampled.2)) in
    rw (sym (sign-by_matrix p g.H.Xof.front g.G.Xof.front c.args.sk.now c.args.mu.now c.args.rnd.now a _ there refl)) c.sign_with.ensures

pub returns-clause-parts : goal.returns-clause-parts
returns-clause-parts g c =
    let p = set_of c.args.p.now in
    subst (λ (k : PrivateParts). ArePrivateParts p.eta g.row.K g.row.L k) c.sk.view_is (parts_at_set p _ _ _ (known-set c.args.p.now (search rules)) c.requires.sizes.rows c.sk.invariant)
