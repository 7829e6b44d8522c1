use Rattle.std.proofs.Common.{take-add, rules}
use Rattle.std.proofs.lemmas.List.{take_rest}
use Rattle.std.proofs.KnownBytes.{Appends-trans}
use Rattle.mldsa_engine.proofs.output.write_all.Goals as goal

pub loop-written-preserved : goal.loop-written-preserved
loop-written-preserved g c =
    let step = rw (take_rest c.args.bytes.now c.loop-written.written) at c.in_ok-count.ensures.bytes in
    let both = Appends-trans _ _ _ _ _ c.loop-written.invariant.2 step in
    (search rules, search rules, rw (take-add c.loop-written.written c.in_ok-count.count c.args.bytes.now) both)
