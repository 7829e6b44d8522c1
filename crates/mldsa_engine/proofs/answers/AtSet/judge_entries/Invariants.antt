use Rattle.std.proofs.Common.{◌≡◌, false}
use Rattle.mldsa_engine.specs.InnerSteps.{AcceptsIfPrepared, JudgesEntries}
use Rattle.mldsa_engine.proofs.answers.AtSet.judge_entries.Given as goal

abbrev pub invariant-loop-entry : goal.invariant-loop-entry
invariant-loop-entry g l = (l.input.failed ≡ false)
    × JudgesEntries (λ signature message. AcceptsIfPrepared g.S.Set.set g.H.Xof.front l.key message signature l.context) g.row.SIG_LEN
    l.entry (g.I.Read.remaining l.initial.input.device) (g.I.Read.remaining l.input.device) l.output.text.items l.output.success
