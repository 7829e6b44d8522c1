use Rattle.std.proofs.Common.{◌≡◌, ◌<◌, ◌≤◌, ◌+◌, ◌-◌, ◌∙◌, ◌++◌, ℕ, List, min, rules, arith, take, drop, length, length-append, length-take, length-take-le}
use Rattle.std.proofs.lemmas.List.{take-append-le}
use Rattle.mldsa_engine.specs.Lines.{longest_line}
use Rattle.mldsa_engine.proofs.Endings.{goes_on, ends_with_line, ends_with_input, long_line}
use Rattle.mldsa_engine.proofs.lines.read_line.Goals as goal

-- a piece leaves the line at most one character too long
short_enough : (room whole most length : ℕ) → room ≡ min most whole → most ≤ longest_line + 1 - length → length ≤ longest_line
    → length + room ≤ longest_line + 1
short_enough room whole most length a b c = omega (arith, a, b, c)

-- a piece that ended a line leaves it no longer than a line may be
ended_short : (line piece : List ℕ) (room whole most count : ℕ) → room ≡ min most whole → most ≤ longest_line + 1 - length line
    → length line ≤ longest_line → count < room → length piece ≡ count → length (line ++ piece) ≤ longest_line
ended_short line piece room whole most count a b c d e = omega (arith, a, b, c, d, e, length-append line piece)

pub loop-line-preserved : goal.loop-line-preserved
loop-line-preserved g c =
    let count = c.in_ok-piece.piece.length in
    let bound = c.in_ok-piece.ensures.bound in
    let piece = take-append-le count c.read_piece.new.room (drop c.min-most.result c.loop-line.room) bound in
    let size = length-take c.min-most.result c.loop-line.room in
    let most : c.min-most.result ≤ longest_line + 1 - length c.loop-line.line.items = search rules in
    let short = short_enough (length c.read_piece.new.room) _ _ (length c.loop-line.line.items) (c.read_piece.auto.room ∙ size) most
    (search rules) in
    let more = goes_on _ _ _ _ c.loop-line.line.items (take count c.read_piece.new.room) _
    c.loop-line.invariant.2 c.loop-line.invariant.3 c.in_ok-piece.ensures.taken c.in-Open.is in
    let long = length-take-le count c.read_piece.new.room bound in
    rw (c.in_ok-extend_from_slice.ensures.items, piece) (
      search rules,
      omega (arith, length-append c.loop-line.line.items (take count c.read_piece.new.room), long, bound, short),
      more.0,
      more.1,
    )

pub returns-in-Line-clause-taken : goal.returns-in-Line-clause-taken
returns-in-Line-clause-taken g c =
    let count = c.in_ok-piece.piece.length in
    let bound = c.in_ok-piece.ensures.bound in
    let line = c.loop-line.line.items in
    let read = take count c.read_piece.new.room in
    let piece = take-append-le count c.read_piece.new.room (drop c.min-most.result c.loop-line.room) bound in
    let room = c.read_piece.auto.room ∙ length-take c.min-most.result c.loop-line.room in
    let most : c.min-most.result ≤ longest_line + 1 - length line = search rules in
    let less : count < length c.read_piece.new.room = search rules in
    let short = ended_short line read _ _ _ count room most (search rules) less (length-take-le count c.read_piece.new.room bound) in
    let asked : c.saturating_sub-asked.result ≡ c.characters_of-characters.result - length line = search rules in
    let digits = c.characters_of-characters.ensures.value in
    let few = c.characters_of-characters.ensures.most in
    rw (c.in_ok-extend_from_slice.ensures.items, piece) (
      short,
      ends_with_line c.args.wanted _ _ _ _ line read _
          c.loop-line.invariant.2 c.loop-line.invariant.3 c.in_ok-piece.ensures.taken c.in-Line.is
          (omega (arith, asked, digits)) (omega (arith, asked, few)) short,
    )

pub returns-in-Input-clause-taken : goal.returns-in-Input-clause-taken
returns-in-Input-clause-taken g c =
    let count = c.in_ok-piece.piece.length in
    let bound = c.in_ok-piece.ensures.bound in
    let line = c.loop-line.line.items in
    let read = take count c.read_piece.new.room in
    let piece = take-append-le count c.read_piece.new.room (drop c.min-most.result c.loop-line.room) bound in
    let room = c.read_piece.auto.room ∙ length-take c.min-most.result c.loop-line.room in
    let most : c.min-most.result ≤ longest_line + 1 - length line = search rules in
    let less : count < length c.read_piece.new.room = search rules in
    let short = ended_short line read _ _ _ count room most (search rules) less (length-take-le count c.read_piece.new.room bound) in
    let some : 0 < length c.extend_from_slice.new.self.items = search rules in
    rw (c.in_ok-extend_from_slice.ensures.items, piece) (
      short,
      ends_with_input c.args.wanted _ _ _ _ line read _
          c.loop-line.invariant.2 c.loop-line.invariant.3 c.in_ok-piece.ensures.taken c.in-Input.is
          (rw (c.in_ok-extend_from_slice.ensures.items, piece) at some) short,
    )

pub returns-clause-stops : goal.returns-clause-stops
returns-clause-stops g c =
    let long : longest_line < length c.loop-line.line.items = search rules in
    let most : length c.loop-line.line.items ≤ longest_line + 1 = c.loop-line.invariant.1 in
    long_line _ _ _ c.loop-line.invariant.2 c.loop-line.invariant.3 (omega (arith, most, long)) _ _
