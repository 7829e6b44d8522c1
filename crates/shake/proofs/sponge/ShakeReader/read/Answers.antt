use Rattle.std.proofs.Common.{length, length-drop, arith, rules, sym}
use Rattle.std.proofs.lemmas.List.{take_rest}
use Rattle.std.proofs.lemmas.Slice.{overwrites}
use Rattle.shake.specs.Pieces.{next}
use Rattle.shake.proofs.Squeezing.{filled_more, filled_all, filled_only, next_bytes-none}
use Rattle.shake.proofs.sponge.ShakeReader.read.Goals as goal

pub loop-filled-preserved : goal.loop-filled-preserved
loop-filled-preserved g c =
    let fits = rw take_rest at c.read_run-filled.ensures.fits in
    let size = rw take_rest at c.read_run-filled.auto.out in
    let room = length-drop c.loop-filled.filled c.loop-filled.out in
    record {
      within = search (rules, overwrites);
      pieces = filled_more c.loop-filled.out c.read_run-filled.new.out (next c.args.self.now) (next c.loop-filled.self) (next c.read_run-filled.new.self) c.loop-filled.filled _
          c.read_run-filled.result (omega arith) (omega (arith, fits, size)) c.loop-filled.invariant.pieces c.read_run-filled.ensures.pieces;
    }

pub returns-clause-pieces : goal.returns-clause-pieces
returns-clause-pieces g c = filled_all c.loop-filled.out (next c.args.self.now) (next c.loop-filled.self) c.loop-filled.filled (length c.args.out.now)
    (omega arith) (omega (arith, c.loop-filled.auto.out)) c.loop-filled.invariant.pieces

pub returns-clause-given : goal.returns-clause-given
returns-clause-given g c =
    let none = next_bytes-none g.row.R c.loop-filled.self.lanes c.loop-filled.self.block c.loop-filled.self.given in
    sym (filled_only c.loop-filled.out (next c.args.self.now) (next c.loop-filled.self) c.loop-filled.filled (length c.args.out.now)
    (omega arith) (omega (arith, c.loop-filled.auto.out)) c.loop-filled.invariant.pieces none)
