-- Wanted lines one after another.
use Rattle.std.proofs.Common.{◌≡◌, ℕ, suc, ◌+◌, List, [], ◌∷◌, ◌++◌, length, Option, Some, None, Result, Ok, Err, IfOk, IfErr, MatchResult, refl, sym, ap, ◌∙◌, arith, add-zero, length-take-le, take, drop, map, get_or, ◌<◌, ◌≤◌, subst, take-append-drop}
use Rattle.std.proofs.lemmas.List.{take_more, drop_more, map-append}
use Rattle.mldsa_engine.specs.declared.fault.RunFault.{RunFault}
use Rattle.mldsa_engine.specs.Lines.{longest_line, line_reach, first_line, after_line, after_lines, line_bytes, before_lines, lines_bytes, Fits, AllFit, LeavesAllBut, IsLineFault, TakesLines, StopsInTurn, Stops, judged}
use Rattle.mldsa_engine.specs.LineSteps.{TakesLine}
use Rattle.mldsa_engine.proofs.Judging.{judged_digits}

-- the lines of one part of an input, and then those of the next, or the first fault among them
abbrev pub join_lines : Result (List (List ℕ)) RunFault → Result (List (List ℕ)) RunFault → Result (List (List ℕ)) RunFault
join_lines (Err fault) later = Err fault
join_lines (Ok lines) (Err fault) = Err fault
join_lines (Ok lines) (Ok more) = Ok (lines ++ more)

before_join : (first : Result (List ℕ) RunFault) (lines more : Result (List (List ℕ)) RunFault)
    → before_lines first (join_lines lines more) ≡ join_lines (before_lines first lines) more
before_join (Err fault) lines more = refl
before_join (Ok bytes) (Err fault) more = refl
before_join (Ok bytes) (Ok lines) (Err fault) = refl
before_join (Ok bytes) (Ok lines) (Ok more) = refl

join_nil : (more : Result (List (List ℕ)) RunFault) → join_lines (Ok []) more ≡ more
join_nil (Err fault) = refl
join_nil (Ok more) = refl

pub lines_bytes-append : (number : ℕ) (wanted more : List (Option ℕ)) (input : List ℕ)
    → lines_bytes number (wanted ++ more) input ≡ join_lines (lines_bytes number wanted input)
    (lines_bytes (number + length wanted) more (after_lines (length wanted) input))
lines_bytes-append number [] more input =
    sym (join_nil (lines_bytes (number + 0) more input) ∙ ap (λ n. lines_bytes n more input) (add-zero number))
lines_bytes-append number (want ∷ wanted) more input =
    let e : number + 1 + length wanted ≡ number + suc (length wanted) = omega arith in
    let rest = lines_bytes-append (number + 1) wanted more (after_line input) in
    ap (before_lines (line_bytes number want input)) rest
    ∙ before_join (line_bytes number want input) (lines_bytes (number + 1) wanted (after_line input)) _
    ∙ ap (λ n. join_lines (lines_bytes number (want ∷ wanted) input) (lines_bytes n more (after_lines (length wanted) (after_line input))))
    e

pub after_lines-append : (wanted more : List (Option ℕ)) (input : List ℕ)
    → after_lines (length (wanted ++ more)) input ≡ after_lines (length more) (after_lines (length wanted) input)
after_lines-append [] more input = refl
after_lines-append (want ∷ wanted) more input = after_lines-append wanted more (after_line input)

pub AllFit-append : (wanted more : List (Option ℕ)) (lines others : List (List ℕ)) → AllFit wanted lines → AllFit more others
    → AllFit (wanted ++ more) (lines ++ others)
AllFit-append [] more [] others p q = q
AllFit-append [] more (line ∷ lines) others p q = absurd p
AllFit-append (want ∷ wanted) more [] others p q = absurd p
AllFit-append (want ∷ wanted) more (line ∷ lines) others p q = (p.0, AllFit-append wanted more lines others p.1 q)

pub takes_more : (number next : ℕ) (wanted more : List (Option ℕ)) (old mid new : Option (List ℕ)) (lines others : List (List ℕ))
    → next ≡ number + length wanted → TakesLines number wanted old mid lines → TakesLines next more mid new others
    → TakesLines number (wanted ++ more) old new (lines ++ others)
takes_more number next wanted more None mid new lines others e p q = tt
takes_more number next wanted more (Some input) None new lines others e p q = absurd p
takes_more number next wanted more (Some input) (Some middle) None lines others e p q = absurd q
takes_more number next wanted more (Some input) (Some middle) (Some left) lines others e p q = (
  lines_bytes-append number wanted more input ∙ rw (p.0, ← e, ← p.1, q.0) refl,
  q.1 ∙ ap (after_lines (length more)) p.1 ∙ sym (after_lines-append wanted more input),
)

-- a line that was taken, and what it was judged to be
takes_one : (number : ℕ) (wanted : Option ℕ) (old new : Option (List ℕ)) (line bytes : List ℕ)
    → length line ≤ longest_line → TakesLine wanted old new line → judged number wanted line ≡ Ok bytes
    → TakesLines number (wanted ∷ []) old new (bytes ∷ [])
takes_one number wanted None new line bytes short p q = tt
takes_one number wanted (Some input) None line bytes short p q = absurd p
takes_one number wanted (Some []) (Some left) line bytes short p q = absurd (omega arith)
takes_one number wanted (Some (byte ∷ later)) (Some left) line bytes short p q =
    let good : line_bytes number wanted (byte ∷ later) ≡ Ok bytes = ap (judged number wanted) (sym p.1) ∙ q in
    (ap (λ r. before_lines r (Ok [])) good, p.3 (judged_digits number wanted line bytes short q))

pub takes_judged : {V : Type 0} (items : V → List ℕ) (number : ℕ) (wanted : Option ℕ) (old new : Option (List ℕ)) (line : List ℕ)
    (judgement : Result V RunFault)
    → length line ≤ longest_line → TakesLine wanted old new line → IfOk judgement (λ bytes. judged number wanted line ≡ Ok (items bytes))
    → IfOk judgement (λ bytes. TakesLines number (wanted ∷ []) old new (items bytes ∷ []))
takes_judged items number wanted old new line (Err fault) short p q = q
takes_judged items number wanted old new line (Ok bytes) short p q = takes_one number wanted old new line (items bytes) short p q

pub stops_one : (number : ℕ) (wanted : Option ℕ) (old new : Option (List ℕ)) (line : List ℕ) (fault : RunFault)
    → TakesLine wanted old new line → (IsLineFault fault → judged number wanted line ≡ Err fault) → Stops number (wanted ∷ []) old new fault
stops_one number wanted None new line fault p q = λ _. (tt, tt)
stops_one number wanted (Some input) None line fault p q = absurd p
stops_one number wanted (Some []) (Some left) line fault p q = absurd (omega arith)
stops_one number wanted (Some (byte ∷ later)) (Some left) line fault p q = λ of_line.
    let input = byte ∷ later in
    let bad : line_bytes number wanted input ≡ Err fault = ap (judged number wanted) (sym p.1) ∙ q of_line in (
      ap (λ r. before_lines r (Ok [])) bad,
      subst (λ r. MatchResult r (λ _. ⊥) (λ _. LeavesAllBut (line_reach wanted (first_line input)) input left)) (sym bad)
          (subst (λ l. LeavesAllBut (line_reach wanted l) input left) p.1 p.2),
    )

pub stops_judged : {V : Type 0} (number : ℕ) (wanted : Option ℕ) (old new : Option (List ℕ)) (line : List ℕ) (judgement : Result V RunFault)
    → TakesLine wanted old new line → IfErr judgement (λ fault. IsLineFault fault → judged number wanted line ≡ Err fault)
    → IfErr judgement (Stops number (wanted ∷ []) old new)
stops_judged number wanted old new line (Err fault) p q = stops_one number wanted old new line fault p q
stops_judged number wanted old new line (Ok bytes) p q = q

-- good lines were taken before those that were judged in turn
pub before_good : (first : Result (List ℕ) RunFault) (later : Result (List (List ℕ)) RunFault) (lines : List (List ℕ))
    → before_lines first later ≡ Ok lines
    → (bytes : List ℕ) × (first ≡ Ok bytes) × ((others : List (List ℕ)) × (later ≡ Ok others) × (lines ≡ bytes ∷ others))
before_good (Err fault) later lines good = cc good
before_good (Ok bytes) (Err fault) lines good = cc good
before_good (Ok bytes) (Ok others) lines good = (bytes, refl, (others, refl, cc good))

stops_later : (number next : ℕ) (wanted more : List (Option ℕ)) (input left : List ℕ) (lines : List (List ℕ))
    → next ≡ number + length wanted → lines_bytes number wanted input ≡ Ok lines
    → StopsInTurn next more (after_lines (length wanted) input) left → StopsInTurn number (wanted ++ more) input left
stops_later number next [] more input left lines e good stops = subst (λ n. StopsInTurn n more input left) (e ∙ add-zero number) stops
stops_later number next (want ∷ wanted) more input left lines e good stops =
    let parts = before_good (line_bytes number want input) (lines_bytes (number + 1) wanted (after_line input)) lines good in
    subst (λ r. MatchResult r (λ _. StopsInTurn (number + 1) (wanted ++ more) (after_line input) left)
    (λ _. LeavesAllBut (line_reach want (first_line input)) input left))
    (sym parts.1) (stops_later (number + 1) next wanted more (after_line input) left parts.2.0 (omega (arith, e)) parts.2.1 stops)

-- a fault of later lines is that of them all
pub stops_after : (number next : ℕ) (wanted more : List (Option ℕ)) (old mid new : Option (List ℕ)) (lines : List (List ℕ))
    (fault : RunFault) → next ≡ number + length wanted → TakesLines number wanted old mid lines → Stops next more mid new fault
    → Stops number (wanted ++ more) old new fault
stops_after number next wanted more None mid new lines fault e p q = λ _. (tt, tt)
stops_after number next wanted more (Some input) None new lines fault e p q = absurd p
stops_after number next wanted more (Some input) (Some middle) None lines fault e p q = λ of_line. absurd (q of_line).1
stops_after number next wanted more (Some input) (Some middle) (Some left) lines fault e p q = λ of_line. (
  lines_bytes-append number wanted more input ∙ rw (p.0, ← e, ← p.1, (q of_line).0) refl,
  stops_later number next wanted more input left lines e p.0 (subst (λ x. StopsInTurn next more x left) p.1 (q of_line).1),
)

and_good : {A E : Type 0} (P Q : A → Type 0) (R : E → Type 0) (r : Result A E) → ((a : A) → P a → Q a) → MatchResult r P R
    → MatchResult r Q R
and_good P Q R (Ok a) f h = f a h
and_good P Q R (Err e) f h = h

-- lines that were judged in turn are so before others
stops_earlier : (number : ℕ) (wanted more : List (Option ℕ)) (input left : List ℕ) → StopsInTurn number wanted input left
    → StopsInTurn number (wanted ++ more) input left
stops_earlier number [] more input left p = absurd p
stops_earlier number (want ∷ wanted) more input left p =
    and_good _ _ _ (line_bytes number want input) (λ _ q. stops_earlier (number + 1) wanted more (after_line input) left q) p

-- and so is a fault of earlier ones
pub stops_before : (number : ℕ) (wanted more : List (Option ℕ)) (old new : Option (List ℕ)) (fault : RunFault)
    → Stops number wanted old new fault → Stops number (wanted ++ more) old new fault
stops_before number wanted more None new fault p = λ _. (tt, tt)
stops_before number wanted more (Some input) None fault p = λ of_line. absurd (p of_line).1
stops_before number wanted more (Some input) (Some left) fault p = λ of_line. (
  lines_bytes-append number wanted more input ∙ rw (p of_line).0 refl,
  stops_earlier number wanted more input left (p of_line).1,
)

-- lines that fit are as many as are wanted
pub AllFit-length : (wanted : List (Option ℕ)) (lines : List (List ℕ)) → AllFit wanted lines → length lines ≡ length wanted
AllFit-length [] [] fit = refl
AllFit-length [] (line ∷ lines) fit = absurd fit
AllFit-length (want ∷ wanted) [] fit = absurd fit
AllFit-length (want ∷ wanted) (line ∷ lines) fit = ap suc (AllFit-length wanted lines fit.1)

-- no line was taken
pub no_lines : (first : ℕ) (given : Option (List ℕ)) → TakesLines first [] given given []
no_lines first None = tt
no_lines first (Some input) = (refl, refl)

-- how the next line is numbered
numbered_on : (first number : ℕ) (wanted : List (Option ℕ)) (index : ℕ) → index < length wanted → number ≡ first + index
    → number ≡ first + length (take index wanted)
numbered_on first number wanted index within numbered = omega (arith, numbered, length-take-le index wanted (omega (arith, within)))

-- one line more of those that are wanted
pub next_line : {V : Type 0} (items : V → List ℕ) (first number : ℕ) (wanted : List (Option ℕ)) (index : ℕ) (old mid new : Option (List ℕ))
    (lines all : List V) (line : V) → index < length wanted → number ≡ first + index → all ≡ lines ++ line ∷ []
    → AllFit (take index wanted) (map items lines) → TakesLines first (take index wanted) old mid (map items lines)
    → Fits (get_or wanted index None) (items line) → TakesLines number (get_or wanted index None ∷ []) mid new (items line ∷ [])
    → AllFit (take (index + 1) wanted) (map items all) × TakesLines first (take (index + 1) wanted) old new (map items all)
next_line items first number wanted index old mid new lines all line within numbered grown fit taken fits takes =
    let front = take_more wanted index None within in
    let many : map items all ≡ map items lines ++ items line ∷ [] = ap (map items) grown ∙ map-append items lines (line ∷ []) in
    let this = get_or wanted index None ∷ [] in
    rw (front, many) (
      AllFit-append (take index wanted) this (map items lines) (items line ∷ []) fit (fits, tt),
      takes_more first number (take index wanted) this old mid new (map items lines) (items line ∷ [])
          (numbered_on first number wanted index within numbered) taken takes,
    )

-- the wanted lines, of which one is the next
whole_at : (wanted : List (Option ℕ)) (index : ℕ) → index < length wanted
    → take index wanted ++ ((get_or wanted index None ∷ []) ++ drop (index + 1) wanted) ≡ wanted
whole_at wanted index within = ap (λ l. take index wanted ++ l) (sym (drop_more wanted index None within)) ∙ take-append-drop index wanted

-- the fault of a line is that of them all, where those before it were good
pub stops_at : (first number : ℕ) (wanted : List (Option ℕ)) (index : ℕ) (old mid new : Option (List ℕ))
    (lines : List (List ℕ)) (fault : RunFault) → index < length wanted → number ≡ first + index
    → TakesLines first (take index wanted) old mid lines
    → Stops number (get_or wanted index None ∷ []) mid new fault → Stops first wanted old new fault
stops_at first number wanted index old mid new lines fault within numbered taken bad =
    let this = get_or wanted index None ∷ [] in
    let later = drop (index + 1) wanted in
    let one = stops_before number this later mid new fault bad in
    let all = stops_after first number (take index wanted) (this ++ later) old mid new lines fault
    (numbered_on first number wanted index within numbered) taken one in
    rw (whole_at wanted index within) at all
