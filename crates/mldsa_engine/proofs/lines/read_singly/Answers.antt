use Rattle.std.proofs.Common.{◌≡◌, ◌∷◌, [], ◌∙◌, ap, arith, get_or, rules, take, take-suc}
use Rattle.std.proofs.KnownBytes.{Consumes-trans}
use Rattle.std.proofs.lemmas.List.{take_more_set}
use Rattle.mldsa_engine.proofs.Endings.{has_no_end-append, has_no_end-one}
use Rattle.mldsa_engine.proofs.lines.read_singly.Goals as goal

pub returns-then-character-eq10-clause-taken : goal.returns-then-character-eq10-clause-taken
returns-then-character-eq10-clause-taken g c =
    let one : c.in_ok-read.field-0 ≡ 1 = omega (arith, c.in_ok-read.ensures.bound) in
    let read = ap (λ n. take n c.read.new.room) one ∙ take-suc c.read.new.room 0 0 (search rules) in
    let all = Consumes-trans _ _ _ _ _ c.loop-length.invariant.3 (rw (read, c.if-character-eq10.true) at c.in_ok-read.ensures.bytes.0) in
    ([], all, c.loop-length.invariant.2, omega arith)

pub loop-length-preserved : goal.loop-length-preserved
loop-length-preserved g c =
    let byte = get_or c.read.new.room 0 0 in
    let grown = take_more_set c.loop-length.room c.loop-length.length byte (search rules) in
    let one : c.in_ok-read.field-0 ≡ 1 = omega (arith, c.in_ok-read.ensures.bound) in
    let read = ap (λ n. take n c.read.new.room) one ∙ take-suc c.read.new.room 0 0 (search rules) in
    let none = has_no_end-append _ (byte ∷ []) c.loop-length.invariant.2 (has_no_end-one byte c.if-character-eq10.false) in
    let all = Consumes-trans _ _ _ _ _ c.loop-length.invariant.3 (rw read at c.in_ok-read.ensures.bytes.0) in
    (search rules, search rules, rw grown none, rw grown all)
