-- Lines that were read piece by piece.
use Rattle.std.proofs.Common.{◌≡◌, ℕ, ◌+◌, ◌-◌, ◌<◌, ◌≤◌, not, List, [], ◌∷◌, ◌++◌, length, take, drop, get_or, Option, Some, None, Ok, Err, MatchResult, sym, ap, ◌∙◌, arith, append_assoc, append-nil, length-append, length-take-le, length-drop, take-append-drop, subst}
use Rattle.std.specs.List.{position, position_or_len}
use Rattle.std.proofs.lemmas.Bool.Decides.{nat_tests}
use Rattle.std.proofs.lemmas.List.{take-append-le}
use Rattle.std.proofs.lemmas.List.Folds.{prefix_len-append, length-prefix_len}
use Rattle.std.proofs.lemmas.List.Sums.{prefix_len-le-length, prefix_len_stops, split_at_first}
use Rattle.std.proofs.Math.Seq.{take-append_seam, drop-append_seam, take-length}
use Rattle.std.proofs.Math.ListN.{drop_of_length-le}
use Rattle.std.proofs.KnownBytes.{Consumes-trans}
use Rattle.std.specs.Io.KnownBytes.{Consumes, IsAtEnd}
use Rattle.mldsa_engine.specs.declared.lines.Ending.{Ending}
use Rattle.mldsa_engine.specs.declared.lines.Ending.TheVariants.{Open, Line, Input}
use Rattle.mldsa_engine.specs.declared.fault.RunFault.TheVariants.{TooLong}
use Rattle.mldsa_engine.specs.Lines.{ends_line, first_line, longest_line, line_digits, line_reach, before_lines, line_bytes, Stops, LeavesAllBut}
use Rattle.mldsa_engine.specs.LineSteps.{HasNoEnd, TakesPiece, TakesLine}
use Rattle.mldsa_engine.proofs.Judging.{judged_long}

pub end_after : (line rest : List ℕ) → HasNoEnd line
    → position_or_len ends_line (line ++ rest) ≡ length line + position_or_len ends_line rest
end_after line rest h = let e = prefix_len-append (λ x. not (ends_line x)) line rest in grind (arith, nat_tests, e)

pub no_end : (given : List ℕ) → position ends_line given ≡ None → HasNoEnd given
no_end given none = let bound = prefix_len-le-length (λ x. not (ends_line x)) given in grind (arith, nat_tests, bound)

pub has_no_end-append : (line given : List ℕ) → HasNoEnd line → HasNoEnd given → HasNoEnd (line ++ given)
has_no_end-append line given h h' = omega (arith, end_after line given h, h', length-append line given)

pub has_no_end-one : (byte : ℕ) → ¬ (byte ≡ 10) → HasNoEnd (byte ∷ [])
has_no_end-one byte other = grind (arith, nat_tests)

-- what stands before the first LF of a piece, and what stands after it
pub first_end : (given : List ℕ) (end : ℕ) → position ends_line given ≡ Some end
    → (given ≡ take end given ++ 10 ∷ drop (end + 1) given) × HasNoEnd (take end given) × (end < length given)
first_end given end some =
    let bound = prefix_len-le-length (λ x. not (ends_line x)) given in
    let within : end < length given = grind (arith, nat_tests, bound) in
    let here : position_or_len ends_line given ≡ end = grind (arith, nat_tests, bound) in
    let inside : position_or_len ends_line given < length given = omega (arith, here, within) in
    let stops = prefix_len_stops (λ x. not (ends_line x)) given 0 inside in
    let byte : get_or given (position_or_len ends_line given) 0 ≡ 10 = grind (arith, nat_tests, stops) in
    let split = rw (byte, here) at (split_at_first ends_line given 0 inside) in
    let least = prefix_len-le-length (λ x. not (ends_line x)) (take end given) in
    let size = length-take-le end given (omega (arith, within)) in
    let joined = rw (← split, here) at (prefix_len-append (λ x. not (ends_line x)) (take end given) (10 ∷ drop (end + 1) given)) in
    (split, grind (arith, nat_tests, joined, size, least), within)

-- the line was read, with LF and what came with it
pub takes_ended : (wanted : Option ℕ) (old new : Option (List ℕ)) (line more : List ℕ)
    → HasNoEnd line → Consumes old new (line ++ 10 ∷ more) → length more ≤ line_digits wanted - length line
    → length line + length more ≤ longest_line → TakesLine wanted old new line
takes_ended wanted None new line more h all few within = tt
takes_ended wanted (Some input) None line more h all few within = absurd all
takes_ended wanted (Some input) (Some left) line more h all few within =
    let whole : input ≡ line ++ (10 ∷ more ++ left) = all ∙ append_assoc line (10 ∷ more) left in
    let place : position_or_len ends_line input ≡ length line = rw whole (omega (arith, end_after line (10 ∷ more ++ left) h)) in
    let size = length-append line (10 ∷ more) in
    let rest : left ≡ drop (length line + 1 + length more) input =
    rw all (sym (drop-append_seam (line ++ 10 ∷ more) left) ∙ ap (λ n. drop n (line ++ 10 ∷ more ++ left)) (omega (arith, size))) in (
      rw whole (omega (arith, length-append line (10 ∷ more ++ left))),
      rw (place, whole) (sym (take-append_seam line (10 ∷ more ++ left))),
      (length line + 1 + length more, omega (arith, few, within), rest),
      λ digits. rest ∙ ap (λ n. drop n input) (omega (arith, few, digits, place)),
    )

-- the input ended after the line
pub takes_last : (wanted : Option ℕ) (old new : Option (List ℕ)) (line : List ℕ)
    → HasNoEnd line → Consumes old new line → IsAtEnd new → 0 < length line → length line ≤ longest_line → TakesLine wanted old new line
takes_last wanted None new line h all end some short = tt
takes_last wanted (Some input) None line h all end some short = absurd all
takes_last wanted (Some input) (Some left) line h all end some short =
    let whole : input ≡ line = all ∙ ap (λ l. line ++ l) end ∙ append-nil line in
    let place : position_or_len ends_line input ≡ length line = rw whole h in
    let over : (n : ℕ) → length line ≤ n → left ≡ drop n input = λ n more. rw whole (end ∙ sym (drop_of_length-le line more)) in (
      rw whole some,
      rw (place, whole) (sym (take-length line)),
      (length line, omega (arith, short), over (length line) (omega arith)),
      λ _. over (position_or_len ends_line input + 1) (omega (arith, place)),
    )

-- a line and a piece of it that was read next: it goes on, or ended with LF, or with the input
pub goes_on : (asked : ℕ) (old mid new : Option (List ℕ)) (line piece : List ℕ) (ending : Ending) → HasNoEnd line → Consumes old mid line
    → TakesPiece asked mid new piece ending → ending ≡ Open
    → HasNoEnd (line ++ piece) × Consumes old new (line ++ piece) × (0 < length piece)
goes_on asked old mid new line piece ending h all taken is =
    let piece-taken = rw is at taken in
    (has_no_end-append line piece h piece-taken.1, Consumes-trans old mid new line piece all piece-taken.0, piece-taken.2)

pub ends_with_line : (wanted : Option ℕ) (asked : ℕ) (old mid new : Option (List ℕ)) (line piece : List ℕ) (ending : Ending) → HasNoEnd line
    → Consumes old mid line → TakesPiece asked mid new piece ending → ending ≡ Line → asked ≤ line_digits wanted + 1 - length line
    → asked ≤ longest_line + 1 - length line → length (line ++ piece) ≤ longest_line → TakesLine wanted old new (line ++ piece)
ends_with_line wanted asked old mid new line piece ending h all taken ended few few' within =
    let (more, rest, none, short) = rw ended at taken in
    takes_ended wanted old new (line ++ piece) more (has_no_end-append line piece h none)
    (subst (λ l. Consumes old new l) (sym (append_assoc line piece (10 ∷ more)))
    (Consumes-trans old mid new line (piece ++ 10 ∷ more) all rest))
    (omega (arith, short, few, length-append line piece)) (omega (arith, short, few', within, length-append line piece))

pub ends_with_input : (wanted : Option ℕ) (asked : ℕ) (old mid new : Option (List ℕ)) (line piece : List ℕ) (ending : Ending)
    → HasNoEnd line → Consumes old mid line
    → TakesPiece asked mid new piece ending → ending ≡ Input → 0 < length (line ++ piece) → length (line ++ piece) ≤ longest_line
    → TakesLine wanted old new (line ++ piece)
ends_with_input wanted asked old mid new line piece ending h all taken ended some short =
    let piece-taken = rw ended at taken in
    takes_last wanted old new (line ++ piece) (has_no_end-append line piece h piece-taken.1)
    (Consumes-trans old mid new line piece all piece-taken.0) piece-taken.2 some short

-- a line of which more was read than a line may have is too long, whatever follows, and was judged before anything after it was read
pub long_line : (old new : Option (List ℕ)) (line : List ℕ) → HasNoEnd line → Consumes old new line → length line ≡ longest_line + 1
    → (number : ℕ) (wanted : Option ℕ) → Stops number (wanted ∷ []) old new (TooLong number)
long_line None new line h taken long number wanted = λ _. (tt, tt)
long_line (Some input) None line h taken long number wanted = absurd taken
long_line (Some []) (Some left) line h taken long number wanted = absurd (omega (arith, ap length taken, length-append line left, long))
long_line (Some (byte ∷ later)) (Some left) line h taken long number wanted = λ _.
    let input = byte ∷ later in
    let place : position_or_len ends_line input ≡ length line + position_or_len ends_line left =
    subst (λ x. position_or_len ends_line x ≡ length line + position_or_len ends_line left) (sym taken) (end_after line left h) in
    let size : length (first_line input) ≡ position_or_len ends_line input = length-prefix_len (λ x. not (ends_line x)) input in
    let bad : line_bytes number wanted input ≡ Err (TooLong number) = judged_long number wanted (first_line input)
    (omega (arith, size, place, long)) in (
      ap (λ r. before_lines r (Ok [])) bad,
      subst (λ r. MatchResult r (λ _. ⊥) (λ _. LeavesAllBut (line_reach wanted (first_line input)) input left)) (sym bad)
          (length line, omega (arith, size, place, long), sym (ap (drop (length line)) taken ∙ drop-append_seam line left)),
    )

-- LF stands in a piece that one call gave
pub ended_at_once : (old new : Option (List ℕ)) (asked count : ℕ) (room : List ℕ) (end : ℕ) → count ≤ length room → count ≤ asked
    → Consumes old new (take count room) → position ends_line (take count room) ≡ Some end
    → (more : List ℕ) × Consumes old new (take end room ++ 10 ∷ more) × HasNoEnd (take end room)
    × (length more ≤ asked - length (take end room) - 1)
ended_at_once old new asked count room end within size given some =
    let first = first_end (take count room) end some in
    let long = length-take-le count room within in
    let same : take end (take count room) ≡ take end room =
    sym (take-append-le end (take count room) (drop count room) (omega (arith, first.2))) ∙ ap (take end) (take-append-drop count room) in
    let few = length-drop (end + 1) (take count room) in
    let short = length-take-le end room (omega (arith, first.2, long, within)) in (
      drop (end + 1) (take count room),
      rw (← same) (subst (λ l. Consumes old new l) first.0 given),
      rw same at first.1,
      omega (arith, few, long, size, short, within),
    )
