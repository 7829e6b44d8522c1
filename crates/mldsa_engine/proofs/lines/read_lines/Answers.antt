use Rattle.std.proofs.Common.{rules}
use Rattle.mldsa_engine.specs.Lines.{Stops}
use Rattle.mldsa_engine.proofs.LinesInSequence.{next_line, stops_at}
use Rattle.mldsa_engine.proofs.lines.read_lines.Goals as goal

pub loop-length-init : goal.loop-length-init
loop-length-init g c = (search rules, search rules, search rules, search rules)

pub returns-in_err-bytes-clause-stops : goal.returns-in_err-bytes-clause-stops
returns-in_err-bytes-clause-stops g c =
    let given = g.I.Read.remaining c.args.input.now.device in
    let left = g.I.Read.remaining c.read_bytes.new.input.device in
    let bad : Stops c.args.first c.args.wanted.now given left c.in_err-bytes.field-0.0 =
    stops_at _ _ c.args.wanted.now c.loop-length.length-index _ _ _ _ _ (search rules) (search rules)
    c.loop-length.invariant.3 c.in_err-bytes.ensures.stops in
    search (rules, bad)

pub loop-length-preserved : goal.loop-length-preserved
loop-length-preserved g c =
    let added = next_line (λ line. line.items) _ _ c.args.wanted.now c.loop-length.length-index _ _ _ c.loop-length.lines.items _ _
    (search rules) (search rules) c.in_ok-push.ensures.items c.loop-length.invariant.2 c.loop-length.invariant.3
    c.in_ok-bytes.ensures.fits c.in_ok-bytes.ensures.taken in
    (search rules, search rules, added.0, added.1)
