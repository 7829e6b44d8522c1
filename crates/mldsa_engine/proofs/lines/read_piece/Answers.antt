use Rattle.std.proofs.Common.{rules, drop, length-append, ◌∙◌, sym, arith}
use Rattle.std.proofs.lemmas.List.{take-append-le}
use Rattle.mldsa_engine.proofs.Endings.{ended_at_once, no_end}
use Rattle.mldsa_engine.proofs.lines.read_piece.Goals as goal

pub returns-in-Some-clause-taken : goal.returns-in-Some-clause-taken
returns-in-Some-clause-taken g c =
    let count = c.in_ok-count.count in
    let bound = c.in_ok-count.ensures.bound in
    let rest = drop c.min-most.result c.args.room.now in
    let piece = take-append-le count c.read.new.room rest bound in
    ended_at_once _ _ c.args.asked count _ c.in-Some.end
    (omega (arith, bound, length-append c.read.new.room rest)) (search rules)
    (rw piece c.in_ok-count.ensures.bytes.0) (sym c.end_of.ensures ∙ c.in-Some.is)

pub returns-in-None-2-clause-taken : goal.returns-in-None-2-clause-taken
returns-in-None-2-clause-taken g c =
    let count = c.in_ok-count.count in
    let bound = c.in_ok-count.ensures.bound in
    let rest = drop c.min-most.result c.args.room.now in (
      rw (take-append-le count c.read.new.room rest bound) c.in_ok-count.ensures.bytes.0,
      no_end _ (sym c.end_of.ensures ∙ c.in-None.is),
      search rules,
    )
