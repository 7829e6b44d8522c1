use Rattle.fips204.proofs.Prepared.{prepared_answers_as_plain}
use Rattle.mldsa_engine.proofs.Verdicts.{judged_by_prepared}
use Rattle.mldsa_engine.proofs.answers.AtSet.judge_batch.Goals as goal

pub returns-clause-judged : goal.returns-clause-judged
returns-clause-judged g c =
    let p = g.S.Set.set in
    let law = prepared_answers_as_plain p g.H.Xof.front g.G.Xof.front in
    judged_by_prepared (λ output. output.text.items) (λ output. output.success) p _ _ c.decode-key.result c.write_prepared.new.prepared _ _ _ _ _ _ _
    law c.decode-key.ensures c.write_prepared.ensures g.met.S.SignatureSizes.sizes.signature c.judge_entries.ensures.judged
