use Rattle.mldsa_engine.proofs.Judging.{judged_by_decoding}
use Rattle.mldsa_engine.proofs.LinesInSequence.{takes_judged, stops_judged}
use Rattle.mldsa_engine.proofs.lines.read_bytes.Goals as goal

pub returns-clause-fits : goal.returns-clause-fits
returns-clause-fits g c =
    (judged_by_decoding (λ bytes. bytes.items) c.args.number _ c.in_ok-line.line.items c.decode.result _ c.in_ok-line.ensures.taken.0
    (rw c.as_slice.ensures.value at c.decode.ensures.ok) (rw c.as_slice.ensures.value at c.decode.ensures.err) c.judge.ensures).1

pub returns-clause-taken : goal.returns-clause-taken
returns-clause-taken g c =
    takes_judged (λ bytes. bytes.items) _ _ _ _ c.in_ok-line.line.items c.judge.result c.in_ok-line.ensures.taken.0
    c.in_ok-line.ensures.taken.1
    (judged_by_decoding (λ bytes. bytes.items) c.args.number _ c.in_ok-line.line.items c.decode.result _ c.in_ok-line.ensures.taken.0
    (rw c.as_slice.ensures.value at c.decode.ensures.ok) (rw c.as_slice.ensures.value at c.decode.ensures.err) c.judge.ensures).0

pub returns-clause-stops : goal.returns-clause-stops
returns-clause-stops g c =
    stops_judged _ _ _ _ c.in_ok-line.line.items c.judge.result c.in_ok-line.ensures.taken.1
    (judged_by_decoding (λ bytes. bytes.items) c.args.number _ c.in_ok-line.line.items c.decode.result _ c.in_ok-line.ensures.taken.0
    (rw c.as_slice.ensures.value at c.decode.ensures.ok) (rw c.as_slice.ensures.value at c.decode.ensures.err) c.judge.ensures).2
