use Rattle.std.proofs.Common.{rules, arith, ◌≡◌, ◌∙◌, Some, ap, sym, true≢false}
use Rattle.fips204.proofs.Names.{sampled_matrix, matrix-same, PublicParts, set_of}
use Rattle.fips204.proofs.ParameterSets.{limits}
use Rattle.fips204.proofs.Verification.{commitment-decides, unopened, verifies-with}
use Rattle.fips204.proofs.ml_dsa.verification.verify_internal.Goals as goal

pub open_signature-requires : goal.open_signature-requires
open_signature-requires g c =
    let known = limits c.args.p.now (search rules) in
    (omega (arith, c.requires.sizes.columns, known.few_columns), (omega (arith, c.requires.sizes.rows, known.few_rows), rw c.told-sig c.requires.sizes))

pub returns-in_default : goal.returns-in_default
returns-in_default g c = (λ t. absurd (true≢false (sym t)), λ v. absurd (unopened _ _ _ _ _ _ c.in_default.ensures.parts v.accepted))

pub returns-in-Ok : goal.returns-in-Ok
returns-in-Ok g c =
    let p = c.args.p.now in
    let sampled = c.in-Ok.ensures in
    let rho : c.pk.inside.rho ≡ c.args.pk.now.rho = ap (λ (k : PublicParts). k.rho) c.pk.view_is in
    let t1 : c.pk.inside.t1 ≡ c.args.pk.now.t1 = ap (λ (k : PublicParts). k.t1) c.pk.view_is in
    let there = sampled.1 in
    let matrix : sampled_matrix g.G.Xof.front c.args.pk.now.rho p.k p.l ≡ Some sampled.0 = rw (rho, c.requires.sizes.rows, c.requires.sizes.columns) at there in
    let z = c.open_signature.new.z in
    let judged = c.is_committed_by.ensures in
    let decided = commitment-decides p g.H.Xof.front sampled.0 c.pk.inside.t1 c.args.mu.now c.args.sig.now c.in-Some.parts.0.now z c.open_signature.new.h c.in-Some.parts.1 c.write_sampled_product.new.v judged.0 g.row.K g.row.L c.is_committed_by.result
    (search rules) c.requires.sizes.rows c.requires.sizes.columns c.in-Some.ensures.parts
    (λ r n h l. sampled.2 r n h l ∙ matrix-same g.row.L sampled.0 c.write_transforms_and_factor-c_hat.new.self z r n c.write_transforms_and_factor-c_hat.ensures.vector l)
    judged.1 (judged.2 c.in-Some.parts.1 c.write_transforms_and_factor-c_hat.ensures.factor) in
    verifies-with (set_of p) g.H.Xof.front g.G.Xof.front c.args.pk.now c.args.mu.now c.args.sig.now sampled.0 c.is_committed_by.result matrix (rw t1 at decided)
