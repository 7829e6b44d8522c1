-- What is told of a signature, and the results of a batch, one after another, and by a prepared key.
use Rattle.std.proofs.Common.{◌≡◌, ℕ, ◌+◌, ◌*◌, ◌<◌, Bool, true, false, IsTrue, ◌↔◌, List, [], ◌∷◌, ◌++◌, length, map, get_or, inl, inr, refl, sym, ap, ◌∙◌, arith, subst, length-append, Result, Ok, Err, Some, None}
use Rattle.std.proofs.lemmas.List.{get_or_append_left, get_or-append-add, map-append, flat_map_more}
use Rattle.std.proofs.lemmas.List.Elements.{All-nil, All-push, All-pop}
use Rattle.std.proofs.lemmas.Bool.{cases_eq}
use Rattle.std.specs.Prelude.{IfOk, MatchResult, ok_or, option_map}
use Rattle.std.specs.declared.option.Option.{Option}
use Rattle.fips204.specs.fault.Fault.{Fault}
use Rattle.fips204.specs.fault.Fault.TheVariants.{SamplingLimit}
use Rattle.fips204.specs.Framing.{plain}
use Rattle.fips204.specs.Encodings.{PublicParts, PrivateParts, IsPublicKeyOf}
use Rattle.fips204.specs.Keys.{DecodesPrivate}
use Rattle.fips204.specs.Sampling.{sampled_matrix}
use Rattle.fips204.specs.ParameterSets.{ParameterSet, signature_length}
use Rattle.fips204.specs.Prepared.{PreparedPublic, prepared_public, PreparedAnswersAsPlain}
use Rattle.fips204.specs.Refusals.{sign_input, VerifiesInput}
use Rattle.fips204.specs.declared.types.T.{T}
use Rattle.mldsa_engine.specs.Lines.{AllFit, TakesLines}
use Rattle.mldsa_engine.specs.ProgramText.{text, answer_word, entry_lines, Refuses, Tells, TellsSignature, AnswersEach, TellsAll, TellsVerdict}
use Rattle.mldsa_engine.specs.InnerSteps.{AcceptsIfPrepared, JudgesEntries, JudgesByKey}
use Rattle.mldsa_engine.proofs.LinesInSequence.{no_lines}
use Rattle.mldsa_engine.proofs.Entries.{next_entry}

-- the result for one entry more
answers_next : (accepts : List ℕ → List ℕ → Type 0) (entries : List (List ℕ)) (answers : List Bool) (signature message : List ℕ)
    (answer : Bool) → (IsTrue answer ↔ accepts signature message) → AnswersEach accepts entries answers
    → AnswersEach accepts (entries ++ signature ∷ message ∷ []) (answers ++ answer ∷ [])
answers_next accepts entries answers signature message answer now (size, each) =
    let last = length answers in
    let more = signature ∷ message ∷ [] in
    let counted = length-append answers (answer ∷ []) in (
      omega (arith, size, counted, length-append entries more),
      λ entry within. elim (cases_eq entry last) [
        | inl same ↦
            let zeroth : entry ≡ length answers + 0 = omega (arith, same) in
            let first : 2 * entry ≡ length entries + 0 = omega (arith, same, size) in
            let second : 2 * entry + 1 ≡ length entries + 1 = omega (arith, same, size) in
            rw (
              ap (λ n. get_or (answers ++ answer ∷ []) n false) zeroth ∙ get_or-append-add answers (answer ∷ []) 0 false,
              ap (λ n. get_or (entries ++ more) n []) first ∙ get_or-append-add entries more 0 [],
              ap (λ n. get_or (entries ++ more) n []) second ∙ get_or-append-add entries more 1 [],
            )
            now
        | inr other ↦
            let earlier : entry < last = omega (arith, within, other, counted) in
            rw (
              get_or_append_left answers (answer ∷ []) false entry earlier,
              get_or_append_left entries more [] (2 * entry) (omega (arith, size, earlier)),
              get_or_append_left entries more [] (2 * entry + 1) (omega (arith, size, earlier)),
            )
            (each entry earlier)
      ],
    )

-- it is told after the others
told_next : (answers : List Bool) (answer : Bool) (old new : List ℕ) (all next : Bool) → new ≡ old ++ (answer_word answer ++ 10 ∷ [])
    → (IsTrue next ↔ IsTrue all × IsTrue answer) → TellsAll answers old all → TellsAll (answers ++ answer ∷ []) new next
told_next answers answer old new all next grown both tells = (
  grown ∙ ap (λ l. l ++ (answer_word answer ++ 10 ∷ [])) tells.0
      ∙ flat_map_more (λ line. line ++ 10 ∷ []) [] (map answer_word answers) (answer_word answer)
      ∙ ap text (sym (map-append answer_word answers (answer ∷ []))),
  (
    λ t. All-push IsTrue answers answer (tells.1.0 (both.0 t).0) (both.0 t).1,
    λ h. let split = All-pop IsTrue (answers ++ answer ∷ []) answers (Some answer) refl h in both.1 (tells.1.1 split.0, split.1),
  ),
)

-- no entry was judged, and one more
pub judges_none : (accepts : List ℕ → List ℕ → Type 0) (size : ℕ) (given : Option (List ℕ))
    → JudgesEntries accepts size 0 given given [] true
judges_none accepts size given =
    ([], tt, no_lines 4 given, ([], (refl, λ entry within. absurd (omega (arith, within))), (refl, (λ _. All-nil IsTrue, λ _. refl))))

pub judges_next : {V : Type 0} (items : V → List ℕ) (accepts : List ℕ → List ℕ → Type 0) (size entry number : ℕ)
    (old mid new : Option (List ℕ))
    (lines : List V) (first second : V) (before after : List ℕ) (all next answer : Bool) (s m : List ℕ) → number ≡ 4 + 2 * entry
    → AllFit (entry_lines size 1) (map items lines) → TakesLines number (entry_lines size 1) mid new (map items lines)
    → first ≡ get_or lines 0 first → second ≡ get_or lines 1 second → s ≡ items first → m ≡ items second
    → (IsTrue answer ↔ accepts s m) → after ≡ before ++ (answer_word answer ++ 10 ∷ []) → (IsTrue next ↔ IsTrue all × IsTrue answer)
    → JudgesEntries accepts size entry old mid before all → JudgesEntries accepts size (entry + 1) old new after next
judges_next items accepts size entry number old mid new [] first second before after all next answer s m numbered fit takes is is' e e' now
    grown both told = absurd fit
judges_next items accepts size entry number old mid new
    (a ∷ []) first second before after all next answer s m numbered fit takes is is' e e' now grown both told = absurd fit.1
judges_next items accepts size entry number old mid new
    (a ∷ b ∷ []) first second before after all next answer s m numbered fit takes is is' e e' now grown both
    (entries, fits, taken, (answers, each, tells)) =
    let further = next_entry size entry number old mid new entries (items a ∷ items b ∷ []) numbered fits taken fit takes in
    let now' : IsTrue answer ↔ accepts (items a) (items b) = rw (← is, ← is', ← e, ← e') now in
    let judged = answers_next accepts entries answers (items a) (items b) answer now' each in
    let told = told_next answers answer before after all next grown both tells in
    (entries ++ items a ∷ items b ∷ [], further.0, further.1, (answers ++ answer ∷ [], judged, told))
judges_next items accepts size entry number old mid new
    (a ∷ b ∷ c ∷ more) first second before after all next answer s m numbered fit takes is is' e e' now grown both told = absurd fit.1.1

-- what preparing a key returned accepts what the key does
accepts_as_key : (p : ParameterSet) (H G : List ℕ → List ℕ) (matrix : Option (List (List T))) (pk : PublicParts)
    (message signature context : List ℕ) → PreparedAnswersAsPlain p H G → sampled_matrix G pk.rho p.k p.l ≡ matrix
    → AcceptsIfPrepared p H (ok_or (option_map (λ a. record { parts = pk; matrix = a }) matrix) SamplingLimit) message signature context
    ↔ VerifiesInput p H G pk signature (plain message context)
accepts_as_key p H G None pk message signature context law none =
    (λ x. absurd x, λ v. let there = sym none ∙ v.1.matrix in absurd cc)
accepts_as_key p H G (Some a) pk message signature context law there =
    law.verify_inputs pk record { parts = pk; matrix = a } signature (plain message context)
    (ap (λ matrix. ok_or (option_map (λ a. record { parts = pk; matrix = a }) matrix) SamplingLimit) there)

-- the results are those of what accepts the same
answers_alike : (accepts alike : List ℕ → List ℕ → Type 0) (entries : List (List ℕ)) (answers : List Bool)
    → ((signature message : List ℕ) → accepts signature message ↔ alike signature message)
    → AnswersEach accepts entries answers → AnswersEach alike entries answers
answers_alike accepts alike entries answers same (size, each) = (
  size,
  λ entry within.
      let here = same (get_or entries (2 * entry) []) (get_or entries (2 * entry + 1) []) in
      (λ t. here.0 ((each entry within).0 t), λ a. (each entry within).1 (here.1 a)),
)

-- so what it returns for each entry is whether the key accepts it
pub judged_by_prepared : {W E : Type 0} (output : W → List ℕ) (success : W → Bool) (p : ParameterSet) (H G : List ℕ → List ℕ)
    (pk : PublicParts) (prepared : Result PreparedPublic Fault) (key context : List ℕ) (size count : ℕ) (given left : Option (List ℕ))
    (result : Result W E) → PreparedAnswersAsPlain p H G → IsPublicKeyOf H p.k key pk → prepared ≡ prepared_public p G pk
    → size ≡ signature_length p
    → IfOk result (λ it. JudgesEntries (λ signature message. AcceptsIfPrepared p H prepared message signature context)
    size count given left (output it) (success it))
    → IfOk result (λ it. JudgesByKey p H G key context count given left (output it) (success it))
judged_by_prepared output success p H G pk prepared key context size count given left (Err fault) law is same sized each = each
judged_by_prepared output success p H G pk prepared key context size count given left (Ok it) law is same sized each =
    let (entries, fit, taken, (answers, judged, tells)) = each in
    let accepts : List ℕ → List ℕ → Type 0 = λ signature message. VerifiesInput p H G pk signature (plain message context) in
    let alike = answers_alike _ accepts entries answers
    (λ signature message. accepts_as_key p H G (sampled_matrix G pk.rho p.k p.l) pk message signature context law refl)
    (rw same at judged) in
    let all : JudgesEntries accepts size count given left (output it) (success it) = (entries, fit, taken, (answers, alike, tells)) in
    (pk, is, subst (λ n. JudgesEntries accepts n count given left (output it) (success it)) sized all)

-- what is told of a verdict is what `verify` writes
pub judges_told : {W E : Type 0} (output : W → List ℕ) (success : W → Bool) (p : ParameterSet) (H G : List ℕ → List ℕ)
    (key signature context message : List ℕ) (answer : Bool) (result : Result W E)
    → ((pk : PublicParts) × IsPublicKeyOf H p.k key pk × (IsTrue answer ↔ VerifiesInput p H G pk signature (plain message context)))
    → IfOk result (λ it. (output it ≡ text (answer_word answer ∷ [])) × (success it ≡ answer))
    → IfOk result (λ it. TellsVerdict p H G key signature context message (output it) (success it))
judges_told output success p H G key signature context message answer (Err fault) now told = told
judges_told output success p H G key signature context message answer (Ok it) (pk, is, now) told = rw told.1 (pk, is, now, told.0)

-- what is told of a signature by the key that bytes spell, or of an error, is what `sign` writes
pub signs_told : {W E : Type 0} (output : W → List ℕ) (success : W → Bool) (p : ParameterSet) (H G : List ℕ → List ℕ)
    (key seed context message : List ℕ) (decoded : Result PrivateParts Fault) (result : Result W E)
    → DecodesPrivate p.eta p.k p.l key decoded
    → IfOk result (λ it. MatchResult decoded
    (λ sk. Tells (λ signature. signature ∷ []) (sign_input p H G sk seed (plain message context)) (output it) (success it))
    (λ fault. Refuses fault (output it) (success it)))
    → IfOk result (λ it. TellsSignature p H G key seed context message (output it) (success it))
signs_told output success p H G key seed context message decoded (Err fault) decodes told = told
signs_told output success p H G key seed context message decoded (Ok it) decodes told = (decoded, decodes, told)
