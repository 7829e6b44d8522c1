use Rattle.std.proofs.Common.{length-drop, arith}
use Rattle.fips204_base.proofs.Names.{take_rest, filled_more}
use Rattle.fips204_base.proofs.xof.counter.BlockReaderXofReader.read.Goals as goal

pub loop-filled-preserved : goal.loop-filled-preserved
loop-filled-preserved g c =
    let fits = rw take_rest at c.read_run-filled.ensures.fits in
    let size = rw take_rest at c.read_run-filled.auto.out in
    let room = length-drop c.loop-filled.filled c.loop-filled.out in
    filled_more c.loop-filled.out c.args.self.now c.loop-filled.self c.read_run-filled.new.out _ c.read_run-filled.new.self c.loop-filled.filled c.read_run-filled.result
    (omega arith) (omega (arith, fits, room)) (omega arith) (omega (arith, size, room)) c.loop-filled.invariant.1 c.loop-filled.invariant.2 c.read_run-filled.ensures.given c.read_run-filled.ensures.dropped
