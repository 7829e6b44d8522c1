-- The lines of a batch, entry by entry.
use Rattle.std.proofs.Common.{◌≡◌, ℕ, zero, suc, ◌+◌, ◌-◌, ◌*◌, ◌<◌, List, [], ◌∷◌, ◌++◌, length, get_or, Option, Some, None, Ok, refl, sym, ap, ◌∙◌, arith, subst}
use Rattle.fips204.specs.ParameterSets.{ParameterSet, signature_length}
use Rattle.mldsa_engine.specs.declared.fault.RunFault.{RunFault}
use Rattle.mldsa_engine.specs.declared.call.Task.TheVariants.{Batch}
use Rattle.mldsa_engine.specs.Lines.{after_line, after_lines, line_bytes, lines_bytes, AllFit, TakesLines, Stops}
use Rattle.mldsa_engine.specs.ProgramText.{wanted_lines, entry_lines, two_bytes, entries_of, entries_of_line, input_lines}
use Rattle.mldsa_engine.proofs.LinesInSequence.{AllFit-append, before_good, takes_more, stops_after, stops_before}

-- the third of the lines that were taken
third_line : (first second third : Option ℕ) (input : List ℕ) (lines : List (List ℕ))
    → lines_bytes 1 (first ∷ second ∷ third ∷ []) input ≡ Ok lines → line_bytes 3 third (after_lines 2 input) ≡ Ok (get_or lines 2 [])
third_line first second third input lines good =
    let one = before_good (line_bytes 1 first input) (lines_bytes 2 (second ∷ third ∷ []) (after_line input)) lines good in
    let two = before_good (line_bytes 2 second (after_line input)) (lines_bytes 3 (third ∷ []) (after_lines 2 input)) one.2.0 one.2.1 in
    let three = before_good (line_bytes 3 third (after_lines 2 input)) (lines_bytes 4 [] (after_lines 3 input)) two.2.0 two.2.1 in
    three.1 ∙ ap (λ l. Ok (get_or l 2 [])) (sym (one.2.2 ∙ ap (λ l. one.0 ∷ l) (two.2.2 ∙ ap (λ l. two.0 ∷ l) three.2.2)))

-- a batch has as many entries as the third of its lines says
entries_said : (p : ParameterSet) (input : List ℕ) (mid : Option (List ℕ)) (lines : List (List ℕ)) (count : ℕ)
    → TakesLines 1 (wanted_lines Batch p) (Some input) mid lines → count ≡ two_bytes (get_or lines 2 []) → count ≡ entries_of (Some input)
entries_said p input None lines count taken said = absurd taken
entries_said p input (Some left) lines count taken said = said ∙ sym (ap entries_of_line (third_line _ _ _ input lines taken.0))

-- all the lines of a batch are taken once those of its entries are
pub batch_taken : (p : ParameterSet) (given mid left : Option (List ℕ)) (lines entries : List (List ℕ)) (count : ℕ)
    → TakesLines 1 (wanted_lines Batch p) given mid lines → count ≡ two_bytes (get_or lines 2 [])
    → TakesLines 4 (entry_lines (signature_length p) count) mid left entries
    → TakesLines 1 (input_lines Batch p given) given left (lines ++ entries)
batch_taken p None mid left lines entries count first said later = tt
batch_taken p (Some input) mid left lines entries count first said later =
    let size = signature_length p in
    takes_more 1 4 (wanted_lines Batch p) (entry_lines size (entries_of (Some input))) (Some input) mid left lines entries refl first
    (subst (λ n. TakesLines 4 (entry_lines size n) mid left entries) (entries_said p input mid lines count first said) later)

-- the fault of an entry is that of the batch
pub stops_batch : (p : ParameterSet) (given mid left : Option (List ℕ)) (lines : List (List ℕ)) (count : ℕ) (fault : RunFault)
    → TakesLines 1 (wanted_lines Batch p) given mid lines → count ≡ two_bytes (get_or lines 2 [])
    → Stops 4 (entry_lines (signature_length p) count) mid left fault → Stops 1 (input_lines Batch p given) given left fault
stops_batch p None mid left lines count fault first said bad = λ _. (tt, tt)
stops_batch p (Some input) mid left lines count fault first said bad =
    let size = signature_length p in
    stops_after 1 4 (wanted_lines Batch p) (entry_lines size (entries_of (Some input))) (Some input) mid left lines fault refl first
    (subst (λ n. Stops 4 (entry_lines size n) mid left fault) (entries_said p input mid lines count first said) bad)

-- the lines of entries are those of the first and then those of the others
entries_more : (size entries more : ℕ) → entry_lines size (entries + more) ≡ entry_lines size entries ++ entry_lines size more
entries_more size zero more = ap (entry_lines size) (omega arith)
entries_more size (suc entries) more =
    let next : suc entries + more ≡ suc (entries + more) = omega arith in
    ap (entry_lines size) next ∙ ap (λ l. Some size ∷ None ∷ l) (entries_more size entries more)

-- an entry has two lines
pub two_each : (size entries : ℕ) → length (entry_lines size entries) ≡ 2 * entries
two_each size zero = refl
two_each size (suc entries) = omega (arith, two_each size entries)

numbered_on : (size entry number : ℕ) → number ≡ 4 + 2 * entry → number ≡ 4 + length (entry_lines size entry)
numbered_on size entry number numbered = omega (arith, numbered, two_each size entry)

-- one entry more
pub next_entry : (size entry number : ℕ) (old mid new : Option (List ℕ)) (entries lines : List (List ℕ)) → number ≡ 4 + 2 * entry
    → AllFit (entry_lines size entry) entries → TakesLines 4 (entry_lines size entry) old mid entries
    → AllFit (entry_lines size 1) lines → TakesLines number (entry_lines size 1) mid new lines
    → AllFit (entry_lines size (entry + 1)) (entries ++ lines) × TakesLines 4 (entry_lines size (entry + 1)) old new (entries ++ lines)
next_entry size entry number old mid new entries lines numbered fit taken fits takes = rw (entries_more size entry 1) (
  AllFit-append (entry_lines size entry) (entry_lines size 1) entries lines fit fits,
  takes_more 4 number (entry_lines size entry) (entry_lines size 1) old mid new entries lines
      (numbered_on size entry number numbered) taken takes,
)

-- the lines of entries, of which one is the next
whole_batch : (size entry count : ℕ) → entry < count
    → entry_lines size entry ++ (entry_lines size 1 ++ entry_lines size (count - entry - 1)) ≡ entry_lines size count
whole_batch size entry count within =
    let rest = count - entry - 1 in
    let sum : entry + (1 + rest) ≡ count = omega (arith, within) in
    ap (λ l. entry_lines size entry ++ l) (sym (entries_more size 1 rest)) ∙ sym (entries_more size entry (1 + rest))
    ∙ ap (entry_lines size) sum

-- the fault of a line of an entry is that of them all, where the entries before it were good
pub stops_entry : (size entry count number : ℕ) (old mid new : Option (List ℕ)) (entries : List (List ℕ)) (fault : RunFault)
    → entry < count → number ≡ 4 + 2 * entry → TakesLines 4 (entry_lines size entry) old mid entries
    → Stops number (entry_lines size 1) mid new fault → Stops 4 (entry_lines size count) old new fault
stops_entry size entry count number old mid new entries fault within numbered taken bad =
    let later = entry_lines size (count - entry - 1) in
    let one = stops_before number (entry_lines size 1) later mid new fault bad in
    let all = stops_after 4 number (entry_lines size entry) (entry_lines size 1 ++ later) old mid new entries fault
    (numbered_on size entry number numbered) taken one in
    rw (whole_batch size entry count within) at all
