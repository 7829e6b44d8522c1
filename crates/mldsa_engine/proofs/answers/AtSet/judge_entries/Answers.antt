use Rattle.std.proofs.Common.{rules, arith, ℕ, List, [], ◌∷◌, length, Some, None, refl, ap, ◌∙◌}
use Rattle.mldsa_engine.specs.Lines.{Stops}
use Rattle.mldsa_engine.specs.ProgramText.{entry_lines}
use Rattle.mldsa_engine.specs.InnerSteps.{AcceptsIfPrepared}
use Rattle.mldsa_engine.proofs.Entries.{stops_entry}
use Rattle.mldsa_engine.proofs.LineCounts.{counted, fits_at}
use Rattle.mldsa_engine.proofs.Verdicts.{judges_none, judges_next}
use Rattle.mldsa_engine.proofs.answers.AtSet.judge_entries.Goals as goal

pub loop-entry-init : goal.loop-entry-init
loop-entry-init g c =
    let accepts : List ℕ → List ℕ → Type 0 = λ signature message.
    AcceptsIfPrepared g.S.Set.set g.H.Xof.front c.args.key.now message signature c.args.context.now in
    (search rules, rw c.new.ensures.items (judges_none accepts g.row.SIG_LEN (g.I.Read.remaining c.args.input.now.device)))

pub returns-in_err-lines-clause-stops : goal.returns-in_err-lines-clause-stops
returns-in_err-lines-clause-stops g c =
    let given = g.I.Read.remaining c.args.input.now.device in
    let left = g.I.Read.remaining c.read_lines.new.input.device in
    let bad : Stops 4 (entry_lines g.row.SIG_LEN c.args.count) given left c.in_err-lines.field-0.0 =
    stops_entry _ c.loop-entry.entry c.args.count _ _ _ _ c.loop-entry.invariant.1.0 _ (search rules) (search rules)
    c.loop-entry.invariant.1.2 c.in_err-lines.ensures.stops in
    search (rules, bad)

pub loop-entry-preserved : goal.loop-entry-preserved
loop-entry-preserved g c =
    let accepts : List ℕ → List ℕ → Type 0 = λ signature message.
    AcceptsIfPrepared g.S.Set.set g.H.Xof.front c.args.key.now message signature c.args.context.now in
    let signature = c.array_of-signature.ensures ∙ c.as_slice.ensures.value in (
      search rules,
      judges_next (λ line. line.items) accepts _ c.loop-entry.entry _ _ _ _ c.in_ok-lines.lines.items _ _ _ _ _ _
          c.is_accepted-accepted.result _ _
          (search rules) c.in_ok-lines.ensures.fit c.in_ok-lines.ensures.taken c.index.ensures c.index-in-loop-entry.ensures
          signature c.as_slice-message.ensures.value c.is_accepted-accepted.ensures
          c.in_ok-add_answer.ensures.text c.in_ok-add_answer.ensures.success c.loop-entry.invariant.1,
    )

pub index-requires : goal.index-requires
index-requires g c = omega (arith, counted (λ line. line.items) (Some g.row.SIG_LEN ∷ None ∷ []) _ c.in_ok-lines.ensures.fit)

pub index-requires-in-loop-entry : goal.index-requires-in-loop-entry
index-requires-in-loop-entry g c = omega (arith, counted (λ line. line.items) (Some g.row.SIG_LEN ∷ None ∷ []) _ c.in_ok-lines.ensures.fit)

pub array_of-signature-requires : goal.array_of-signature-requires
array_of-signature-requires g c =
    let small = c.as_slice.type_inv.1 in
    let sized = ap length c.as_slice.ensures.value ∙ ap (λ line. length line.items) c.index.ensures
    ∙ fits_at (λ line. line.items) (Some g.row.SIG_LEN ∷ None ∷ []) c.in_ok-lines.lines.items 0 _ c.in_ok-lines.ensures.fit refl in
    (omega (arith, small, sized), sized)
