use Rattle.std.proofs.Common.{arith, ◌++◌, take, length-drop}
use Rattle.std.proofs.lemmas.List.{take_rest}
use Rattle.shake.proofs.Absorbing.{input_more}
use Rattle.shake.proofs.sponge.Shake.update.Goals as goal

pub loop-taken-preserved : goal.loop-taken-preserved
loop-taken-preserved g c =
    let fits = rw take_rest at c.update_run-taken.ensures.fits in
    let more = rw take_rest at c.update_run-taken.ensures.taken in
    let room = length-drop c.loop-taken.taken c.args.input.now in
    record {
      within = omega (arith, fits, room);
      held = λ m held. rw (← input_more g.row.R m c.args.input.now c.loop-taken.taken c.update_run-taken.result)
          (more (m ++ take c.loop-taken.taken c.args.input.now) (c.loop-taken.invariant.held m held));
    }
