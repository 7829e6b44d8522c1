use Rattle.std.proofs.Common.{rules, arith, ◌∙◌, sym, true≢false}
use Rattle.fips204.proofs.Names.{matrix-same}
use Rattle.fips204.proofs.ParameterSets.{limits}
use Rattle.fips204.proofs.Verification.{commitment-decides, unopened}
use Rattle.fips204.proofs.ml_dsa.verification.verify_by_bytes.Goals as goal

pub check_matrix-requires-clause-few : goal.check_matrix-requires-clause-few
check_matrix-requires-clause-few g c =
    let known = limits c.args.p.now (search rules) in
    (omega (arith, c.requires.sizes.rows, known.few_rows), omega (arith, c.requires.sizes.columns, known.few_columns))

pub returns-in_default : goal.returns-in_default
returns-in_default g c =
    let there = c.in_ok-check_matrix.ensures in
    (there.0, there.1, there.2, (λ t. absurd (true≢false (sym t)), λ v. absurd (unopened _ _ _ _ _ _ c.in_default.ensures.parts v)))

pub returns : goal.returns
returns g c =
    let there = c.in_ok-write_read_product.ensures in
    let z = c.open_signature.new.z in
    let judged = c.is_committed_by.ensures in (
      there.0,
      there.1,
      there.2,
      commitment-decides c.args.p.now g.H.Xof.front there.0 c.args.t1.now c.args.mu.now c.args.sig.now c.in-Some.parts.0.now z c.open_signature.new.h c.in-Some.parts.1 c.write_read_product.new.v judged.0 g.row.K g.row.L c.is_committed_by.result
          (search rules) c.requires.sizes.rows c.requires.sizes.columns c.in-Some.ensures.parts
          (λ r n h l. there.3 r n h l ∙ matrix-same g.row.L there.0 c.write_transforms_and_factor-c_hat.new.self z r n c.write_transforms_and_factor-c_hat.ensures.vector l)
          judged.1 (judged.2 c.in-Some.parts.1 c.write_transforms_and_factor-c_hat.ensures.factor),
    )
