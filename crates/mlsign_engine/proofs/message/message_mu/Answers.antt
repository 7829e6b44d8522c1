use Rattle.std.proofs.Common.{arith, rules}
use Rattle.mlsign_engine.proofs.Hashing.{taken_none, taken_more}
use Rattle.mlsign_engine.proofs.message.message_mu.Goals as goal

pub loop-count-init : goal.loop-count-init
loop-count-init g c =
    taken_none g.I.Source.gives g.I.Source.remaining c.args.input.now c.args.tr.now c.args.context.now _ (search rules)

pub loop-count-preserved : goal.loop-count-preserved
loop-count-preserved g c =
    taken_more g.I.Source.gives g.I.Source.remaining c.args.input.now c.loop-count.input c.give.new.self c.args.tr.now c.args.context.now c.give.new.room
    c.in-Some.count c.loop-count._count c.loop-count.hasher c.update.new.self c.loop-count.invariant c.in-Some.ensures.call c.in-Some.ensures.bytes
    (omega (arith, c.if-count-eq0.false)) c.update.ensures
