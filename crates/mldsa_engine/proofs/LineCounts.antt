-- Lines that are as many as a command wants, and what it then writes for them.
use Rattle.std.proofs.Common.{◌≡◌, ℕ, Bool, List, [], ◌∷◌, ◌*◌, map, length, get_or, Option, Result, Ok, Err, IfOk, IfErr, Some, None, refl, sym, ap, zero, suc, ◌∙◌}
use Rattle.std.proofs.lemmas.List.{length-map}
use Rattle.fips204.specs.ParameterSets.{ParameterSet, public_key_length, signature_length}
use Rattle.mldsa_engine.specs.declared.fault.RunFault.{RunFault}
use Rattle.mldsa_engine.specs.declared.call.Task.{Task}
use Rattle.mldsa_engine.specs.declared.call.Task.TheVariants.{Batch}
use Rattle.mldsa_engine.specs.Lines.{AllFit, TakesLines, Stops}
use Rattle.mldsa_engine.proofs.Entries.{two_each, batch_taken, stops_batch}
use Rattle.mldsa_engine.proofs.LinesInSequence.{AllFit-length}
use Rattle.mldsa_engine.specs.ProgramText.{wanted_lines, input_lines, entry_lines, two_bytes, Answers, Executes}
use Rattle.mldsa_engine.specs.InnerSteps.{JudgesByKey}

-- a line that fits has the bytes that are wanted of it
pub fits_at : {V : Type 0} (items : V → List ℕ) (wanted : List (Option ℕ)) (lines : List V) (index : ℕ) {size : ℕ} (other : V)
    → AllFit wanted (map items lines) → get_or wanted index None ≡ Some size → length (items (get_or lines index other)) ≡ size
fits_at items [] lines index other fit is = cc is
fits_at items (want ∷ wanted) [] index other fit is = absurd fit
fits_at items (want ∷ wanted) (line ∷ lines) zero other fit is = rw is at fit.0
fits_at items (want ∷ wanted) (line ∷ lines) (suc index) other fit is = fits_at items wanted lines index other fit.1 is

-- lines that fit are as many as are wanted
pub counted : {V : Type 0} (items : V → List ℕ) (wanted : List (Option ℕ)) (lines : List V) → AllFit wanted (map items lines)
    → length lines ≡ length wanted
counted items wanted lines fit = sym (length-map lines items) ∙ AllFit-length wanted (map items lines) fit

-- one line is wanted, so the first is all of them
one_counted : {V : Type 0} (items : V → List ℕ) (w : Option ℕ) (lines : List V) (first : V)
    → AllFit (w ∷ []) (map items lines) → first ≡ get_or lines 0 first → map items lines ≡ items first ∷ []
one_counted items w [] first fit is = absurd fit
one_counted items w (a ∷ []) first fit is = rw is refl
one_counted items w (a ∷ b ∷ more) first fit is = absurd fit.1

-- three are wanted, so the first three are all of them
three_counted : {V : Type 0} (items : V → List ℕ) (w x y : Option ℕ) (lines : List V) (first second third : V)
    → AllFit (w ∷ x ∷ y ∷ []) (map items lines)
    → first ≡ get_or lines 0 first → second ≡ get_or lines 1 second → third ≡ get_or lines 2 third
    → map items lines ≡ items first ∷ items second ∷ items third ∷ []
three_counted items w x y [] first second third fit p0 p1 p2 = absurd fit
three_counted items w x y (a ∷ []) first second third fit p0 p1 p2 = absurd fit.1
three_counted items w x y (a ∷ b ∷ []) first second third fit p0 p1 p2 = absurd fit.1.1
three_counted items w x y (a ∷ b ∷ c ∷ []) first second third fit p0 p1 p2 = rw (p0, p1, p2) refl
three_counted items w x y (a ∷ b ∷ c ∷ d ∷ more) first second third fit p0 p1 p2 = absurd fit.1.1.1

-- four are wanted, so the first four fields are all of them
four_counted : {V : Type 0} (now : V → List ℕ) (w x y z : Option ℕ) (fields : List V) (other : V)
    → AllFit (w ∷ x ∷ y ∷ z ∷ []) (map now fields)
    → map now fields ≡ now (get_or fields 0 other) ∷ now (get_or fields 1 other) ∷ now (get_or fields 2 other)
    ∷ now (get_or fields 3 other) ∷ []
four_counted now w x y z [] other fit = absurd fit
four_counted now w x y z (a ∷ []) other fit = absurd fit.1
four_counted now w x y z (a ∷ b ∷ []) other fit = absurd fit.1.1
four_counted now w x y z (a ∷ b ∷ c ∷ []) other fit = absurd fit.1.1.1
four_counted now w x y z (a ∷ b ∷ c ∷ d ∷ []) other fit = refl
four_counted now w x y z (a ∷ b ∷ c ∷ d ∷ e ∷ more) other fit = absurd fit.1.1.1.1

-- what a command of one line does, by what it writes for that line's bytes
pub answers_one : {V W E : Type 0} (items : V → List ℕ) (text : W → List ℕ) (success : W → Bool) (H G : List ℕ → List ℕ) (task : Task)
    (p : ParameterSet) (w : Option ℕ) (R : List ℕ → List ℕ → Bool → Type 0) (lines : List V) (first : V) (a : List ℕ) (result : Result W E)
    → ((a output : List ℕ) (answer : Bool) → R a output answer → Answers H G task p (a ∷ []) output answer)
    → AllFit (w ∷ []) (map items lines) → first ≡ get_or lines 0 first → a ≡ items first
    → IfOk result (λ it. R a (text it) (success it)) → IfOk result (λ it. Answers H G task p (map items lines) (text it) (success it))
answers_one items text success H G task p w R lines first a (Err fault) means fit p0 e0 told = told
answers_one items text success H G task p w R lines first a (Ok it) means fit p0 e0 told =
    rw (one_counted items w lines first fit p0, ← e0) (means a (text it) (success it) told)

-- what a command of four lines does, by what it writes for the fields that have their bytes
pub answers_four : {V W E : Type 0} (now : V → List ℕ) (text : W → List ℕ) (success : W → Bool) (H G : List ℕ → List ℕ) (task : Task)
    (p : ParameterSet) (w x y z : Option ℕ) (R : List ℕ → List ℕ → List ℕ → List ℕ → List ℕ → Bool → Type 0)
    (lines : List (List ℕ)) (fields : List V) (other : V) (a b : List ℕ) (result : Result W E)
    → ((a b c d output : List ℕ) (answer : Bool) → R a b c d output answer → Answers H G task p (a ∷ b ∷ c ∷ d ∷ []) output answer)
    → AllFit (w ∷ x ∷ y ∷ z ∷ []) lines → map now fields ≡ lines
    → a ≡ now (get_or fields 0 other) → b ≡ now (get_or fields 1 other)
    → IfOk result (λ it. R a b (now (get_or fields 2 other)) (now (get_or fields 3 other)) (text it) (success it))
    → IfOk result (λ it. Answers H G task p lines (text it) (success it))
answers_four now text success H G task p w x y z R lines fields other a b (Err fault) means fit is first second told = told
answers_four now text success H G task p w x y z R lines fields other a b (Ok it) means fit is first second told =
    let whole = four_counted now w x y z fields other (rw is fit) in
    rw (← is, whole, ← first, ← second) (means a b _ _ (text it) (success it) told)

-- a command was carried out, by what it returns for all its lines
pub executes_lines : {W E : Type 0} (text : W → List ℕ) (success : W → Bool) (H G : List ℕ → List ℕ) (task : Task) (p : ParameterSet)
    (given left : Option (List ℕ)) (lines : List (List ℕ)) (result : Result W E) → TakesLines 1 (input_lines task p given) given left lines
    → IfOk result (λ it. Answers H G task p lines (text it) (success it))
    → IfOk result (λ it. Executes H G task p given left (text it) (success it))
executes_lines text success H G task p given left lines (Err fault) taken told = told
executes_lines text success H G task p given left lines (Ok it) taken told = (lines, taken, told)

-- a batch was carried out, by what was told of its entries
pub executes_batch : {V W E : Type 0} (items : V → List ℕ) (text : W → List ℕ) (success : W → Bool) (H G : List ℕ → List ℕ)
    (p : ParameterSet)
    (given mid left : Option (List ℕ)) (lines : List V) (first second third : V) (k c t : List ℕ) (count : ℕ) (result : Result W E)
    → AllFit (wanted_lines Batch p) (map items lines) → TakesLines 1 (wanted_lines Batch p) given mid (map items lines)
    → first ≡ get_or lines 0 first → second ≡ get_or lines 1 second → third ≡ get_or lines 2 third
    → k ≡ items first → c ≡ items second → t ≡ items third → count ≡ two_bytes t
    → IfOk result (λ it. JudgesByKey p H G k c count mid left (text it) (success it))
    → IfOk result (λ it. Executes H G Batch p given left (text it) (success it))
executes_batch items text success H G p given mid left lines first second third k c t count
    (Err fault) fit taken p0 p1 p2 e0 e1 e2 said judged = judged
executes_batch items text success H G p given mid left lines first second third k c t count
    (Ok it) fit taken p0 p1 p2 e0 e1 e2 said judged =
    let (pk, is, (entries, fits, later, each)) = judged in
    let three = three_counted items (Some (public_key_length p)) None (Some 2) lines first second third fit p0 p1 p2 in
    let front = rw (three, ← e0, ← e1, ← e2) at taken in
    let long = AllFit-length (entry_lines (signature_length p) count) entries fits ∙ two_each (signature_length p) count in (
      k ∷ c ∷ t ∷ entries,
      batch_taken p given mid left (k ∷ c ∷ t ∷ []) entries count front said later,
      (k, c, t, (entries, refl, long ∙ ap (λ n. 2 * n) said, (pk, is, each))),
    )

-- the fault of a line of a batch's entries is that of the batch
pub batch_stops : {V W : Type 0} (items : V → List ℕ) (p : ParameterSet) (given mid left : Option (List ℕ)) (lines : List V)
    (first second third : V) (t : List ℕ) (count : ℕ) (result : Result W RunFault)
    → AllFit (wanted_lines Batch p) (map items lines) → TakesLines 1 (wanted_lines Batch p) given mid (map items lines)
    → first ≡ get_or lines 0 first → second ≡ get_or lines 1 second → third ≡ get_or lines 2 third → t ≡ items third → count ≡ two_bytes t
    → IfErr result (Stops 4 (entry_lines (signature_length p) count) mid left)
    → IfErr result (Stops 1 (input_lines Batch p given) given left)
batch_stops items p given mid left lines first second third t count (Ok it) fit taken p0 p1 p2 e2 said bad = bad
batch_stops items p given mid left lines first second third t count (Err fault) fit taken p0 p1 p2 e2 said bad =
    let three = three_counted items (Some (public_key_length p)) None (Some 2) lines first second third fit p0 p1 p2 in
    let front = rw (three, ← e2) at taken in
    stops_batch p given mid left _ count fault front said bad
