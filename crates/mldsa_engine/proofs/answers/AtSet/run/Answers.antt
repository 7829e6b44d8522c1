use Rattle.std.proofs.Common.{◌≡◌, ◌∷◌, [], take, true, Some, None, refl}
use Rattle.fips204.specs.ParameterSets.{public_key_length, private_key_length, signature_length}
use Rattle.mldsa_engine.specs.declared.call.Task.TheVariants.{Id, Keygen, Sign, Verify, Check}
use Rattle.mldsa_engine.specs.ProgramText.{hex_text, TellsKeys, TellsSignature, TellsVerdict, TellsCheck}
use Rattle.mldsa_engine.proofs.LineCounts.{answers_one, answers_four, executes_lines, executes_batch, batch_stops}
use Rattle.mldsa_engine.proofs.Verdicts.{judges_told}
use Rattle.mldsa_engine.proofs.answers.AtSet.run.Goals as goal

pub returns-in_ok-lines-in-Id-clause-executed : goal.returns-in_ok-lines-in-Id-clause-executed
returns-in_ok-lines-in-Id-clause-executed g c =
    let p = g.S.Set.set in
    let there = c.as_slice-lines.ensures.value in
    let size = g.met.S.KeySizes.key_sizes.public_key in
    let fit = rw size at c.in_ok-lines-in-Id.ensures.fit in
    let taken = rw size at c.in_ok-lines-in-Id.ensures.taken in
    rw c.in-Id.is (executes_lines (λ output. output.text.items) (λ output. output.success) g.H.Xof.front g.G.Xof.front Id p _ _ _
    c.identify.result taken (answers_one (λ line. line.items) (λ output. output.text.items) (λ output. output.success) g.H.Xof.front g.G.Xof.front Id p
    (Some (public_key_length p)) (λ key output answer. (output ≡ hex_text (key ∷ take 64 (g.H.Xof.front key) ∷ [])) × (answer ≡ true))
    c.in_ok-lines-in-Id.lines.items _ _ _ (λ a output answer told. (a, refl, told.0, told.1)) fit (rw there at c.index-lines-0.is)
    c.as_slice.ensures.value c.identify.ensures.given))

pub returns-in_ok-lines-in-Keygen-clause-executed : goal.returns-in_ok-lines-in-Keygen-clause-executed
returns-in_ok-lines-in-Keygen-clause-executed g c =
    let p = g.S.Set.set in
    let there = c.as_slice-lines-in-Keygen.ensures.value in
    let lines = c.in_ok-lines-in-Keygen in
    rw c.in-Keygen.is (executes_lines (λ output. output.text.items) (λ output. output.success) g.H.Xof.front g.G.Xof.front Keygen p _ _ _
    c.keygen.result lines.ensures.taken (answers_one (λ line. line.items) (λ output. output.text.items) (λ output. output.success) g.H.Xof.front g.G.Xof.front Keygen p
    (Some 32) (TellsKeys p g.H.Xof.front g.G.Xof.front) lines.lines.items _ _ _ (λ a output answer told. (a, refl, told)) lines.ensures.fit
    (rw there at c.index-lines-0-in-Keygen.is) (rw c.as_slice-in-Keygen.ensures.value at c.array_of.ensures) c.keygen.ensures.given))

pub returns-in_ok-lines-in-Sign-clause-executed : goal.returns-in_ok-lines-in-Sign-clause-executed
returns-in_ok-lines-in-Sign-clause-executed g c =
    let p = g.S.Set.set in
    let there = c.as_slice-in-Sign.ensures.value in
    let size = g.met.S.KeySizes.key_sizes.private_key in
    let fit = rw size at c.in_ok-lines-in-Sign.ensures.fit in
    let taken = rw size at c.in_ok-lines-in-Sign.ensures.taken in
    rw c.in-Sign.is (executes_lines (λ output. output.text.items) (λ output. output.success) g.H.Xof.front g.G.Xof.front Sign p _ _ _
    c.sign.result taken (answers_four (λ field. field.now) (λ output. output.text.items) (λ output. output.success) g.H.Xof.front g.G.Xof.front Sign p
    (Some (private_key_length p)) (Some 32) None None (TellsSignature p g.H.Xof.front g.G.Xof.front) _ c.fields.result _ _ _ _
    (λ x y z w output answer told. (x, y, z, w, refl, told)) fit (rw there at c.fields.ensures) refl c.array_of-in-Sign.ensures
    c.sign.ensures.given))

pub returns-in_ok-lines-in-Verify-clause-executed : goal.returns-in_ok-lines-in-Verify-clause-executed
returns-in_ok-lines-in-Verify-clause-executed g c =
    let p = g.S.Set.set in
    let there = c.as_slice-in-Verify.ensures.value in
    let size = g.met.S.KeySizes.key_sizes.public_key in
    let size' = g.met.S.SignatureSizes.sizes.signature in
    let fit = rw (size, size') at c.in_ok-lines-in-Verify.ensures.fit in
    let taken = rw (size, size') at c.in_ok-lines-in-Verify.ensures.taken in
    rw c.in-Verify.is (executes_lines (λ output. output.text.items) (λ output. output.success) g.H.Xof.front g.G.Xof.front Verify p _ _ _
    c.tell.result taken (answers_four (λ field. field.now) (λ output. output.text.items) (λ output. output.success) g.H.Xof.front g.G.Xof.front Verify p
    (Some (public_key_length p)) (Some (signature_length p)) None None (TellsVerdict p g.H.Xof.front g.G.Xof.front) _
    c.fields-in-Verify.result _ _ _ _ (λ x y z w output answer told. (x, y, z, w, refl, told)) fit (rw there at c.fields-in-Verify.ensures)
    refl refl (judges_told (λ output. output.text.items) (λ output. output.success) p _ _ _ _ _ _ c.accepts.result _ c.accepts.ensures
    c.tell.ensures.given)))

pub returns-in_ok-lines-in-Check-clause-executed : goal.returns-in_ok-lines-in-Check-clause-executed
returns-in_ok-lines-in-Check-clause-executed g c =
    let p = g.S.Set.set in
    let there = c.as_slice-in-Check.ensures.value in
    let lines = c.in_ok-lines-in-Check in
    rw c.in-Check.is (executes_lines (λ output. output.text.items) (λ output. output.success) g.H.Xof.front g.G.Xof.front Check p _ _ _
    c.check.result lines.ensures.taken (answers_four (λ field. field.now) (λ output. output.text.items) (λ output. output.success) g.H.Xof.front g.G.Xof.front Check p
    (Some 32) (Some 32) None None (TellsCheck p g.H.Xof.front g.G.Xof.front) _ c.fields-in-Check.result _ _ _ _
    (λ x y z w output answer told. (x, y, z, w, refl, told)) lines.ensures.fit (rw there at c.fields-in-Check.ensures) c.array_of-in-Check.ensures
    c.array_of-in-Check-2.ensures c.check.ensures.given))

pub returns-in_ok-lines-in-Batch-clause-executed : goal.returns-in_ok-lines-in-Batch-clause-executed
returns-in_ok-lines-in-Batch-clause-executed g c =
    let there = c.as_slice-lines-in-Batch.ensures.value in
    let size = g.met.S.KeySizes.key_sizes.public_key in
    let fit = rw size at c.in_ok-lines-in-Batch.ensures.fit in
    let taken = rw size at c.in_ok-lines-in-Batch.ensures.taken in
    rw c.in-Batch.is (executes_batch (λ line. line.items) (λ output. output.text.items) (λ output. output.success) _ _ g.S.Set.set _ _ _
    c.in_ok-lines-in-Batch.lines.items _ _ _ _ _ _ _ _ fit taken (rw there at c.index-lines-0-in-Batch.is) (rw there at c.index-lines-1.is)
    (rw there at c.index-lines-2.is) c.as_slice-key.ensures.value c.as_slice-context.ensures.value c.as_slice-in-Batch.ensures.value
    c.number_of-count.ensures.value c.judge_batch.ensures.judged)

pub returns-in_ok-lines-in-Batch-clause-stops : goal.returns-in_ok-lines-in-Batch-clause-stops
returns-in_ok-lines-in-Batch-clause-stops g c =
    let there = c.as_slice-lines-in-Batch.ensures.value in
    let size = g.met.S.KeySizes.key_sizes.public_key in
    let fit = rw size at c.in_ok-lines-in-Batch.ensures.fit in
    let taken = rw size at c.in_ok-lines-in-Batch.ensures.taken in
    rw c.in-Batch.is (batch_stops (λ line. line.items) g.S.Set.set _ _ _ c.in_ok-lines-in-Batch.lines.items _ _ _ _ _ _
    fit taken (rw there at c.index-lines-0-in-Batch.is) (rw there at c.index-lines-1.is) (rw there at c.index-lines-2.is)
    c.as_slice-in-Batch.ensures.value c.number_of-count.ensures.value (rw g.met.S.SignatureSizes.sizes.signature at c.judge_batch.ensures.stops))
