use Rattle.std.proofs.Common.{rules, arith, ◌≡◌, ◌∙◌, sym, subst, true≢false}
use Rattle.fips204.proofs.Names.{vector_coefficients, matrix_product, matrix-same, AreShifted, PreparedPublic}
use Rattle.fips204.proofs.ParameterSets.{limits}
use Rattle.fips204.proofs.Verification.{commitment-decides, unopened}
use Rattle.fips204.proofs.ml_dsa.verification.verify_prepared.Goals as goal

pub open_signature-requires : goal.open_signature-requires
open_signature-requires g c =
    let known = limits c.args.p.now (search rules) in
    (omega (arith, c.requires.sizes.columns, known.few_columns), (omega (arith, c.requires.sizes.rows, known.few_rows), c.requires.sizes))

pub returns-in_default : goal.returns-in_default
returns-in_default g c = (λ t. absurd (true≢false (sym t)), λ v. absurd (unopened _ _ _ _ _ _ c.in_default.ensures.parts v))

pub returns : goal.returns
returns g c =
    let p = c.args.p.now in
    let z = c.open_signature.new.z in
    let shifted : AreShifted g.row.K c.args.pk.now.parts.t1 c.pk.inside.t1_hat = subst (λ (k : PreparedPublic). AreShifted g.row.K k.parts.t1 c.pk.inside.t1_hat) c.pk.view_is c.pk.invariant.2 in
    commitment-decides p g.H.Xof.front c.args.pk.now.matrix c.args.pk.now.parts.t1 c.args.mu.now c.args.sig.now c.in-Some.parts.0.now z c.open_signature.new.h c.in-Some.parts.1 c.multiply_by.new.self c.pk.inside.t1_hat g.row.K g.row.L c.is_committed.result
    (search rules) c.requires.sizes.rows c.requires.sizes.columns c.in-Some.ensures.parts
    (λ r n h l. subst (λ (k : PreparedPublic). vector_coefficients c.multiply_by.new.self r n ≡ matrix_product g.row.L k.matrix (vector_coefficients z) r n) c.pk.view_is
    (c.multiply_by.ensures r n h l ∙ matrix-same g.row.L c.pk.inside.a_hat c.write_transforms_and_factor-c_hat.new.self z r n c.write_transforms_and_factor-c_hat.ensures.vector l))
    shifted (c.is_committed.ensures c.in-Some.parts.1 c.write_transforms_and_factor-c_hat.ensures.factor)
