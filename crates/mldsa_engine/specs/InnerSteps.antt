-- What private functions of the program state of each other: cited by no public clause; nobody has to believe it.
use Rattle.std.specs.Prelude.{ℕ, List, Option, Result, MatchResult, Bool}
use Rattle.fips204.specs.Encodings.{PublicParts, IsPublicKeyOf}
use Rattle.fips204.specs.ParameterSets.{ParameterSet, signature_length}
use Rattle.fips204.specs.Prepared.{PreparedPublic, VerifiesPrepared}
use Rattle.fips204.specs.Refusals.{VerifiesInput}
use Rattle.fips204.specs.fault.Fault.{Fault}
use Rattle.fips204.specs.Framing.{plain}
use Rattle.mldsa_engine.specs.Lines.{AllFit, TakesLines}
use Rattle.mldsa_engine.specs.ProgramText.{entry_lines, AnswersEach, TellsAll}

-- what preparing a key returned accepts a message: nothing where it failed
abbrev pub AcceptsIfPrepared : ParameterSet → (List ℕ → List ℕ) → Result PreparedPublic Fault → List ℕ → List ℕ → List ℕ → Type 0
AcceptsIfPrepared p H prepared message signature context =
    MatchResult prepared (λ key. VerifiesPrepared p H key signature (plain message context)) (λ _. ⊥)

-- so many entries of a batch were judged by what accepts their signatures: a reader gave their lines, from the fourth on, and has
-- left what follows them, and this is told of them
abbrev pub JudgesEntries : (List ℕ → List ℕ → Type 0) → ℕ → ℕ → Option (List ℕ) → Option (List ℕ) → List ℕ → Bool → Type 0
JudgesEntries accepts size count given left output answer = (entries : List (List ℕ))
    × AllFit (entry_lines size count) entries
    × TakesLines 4 (entry_lines size count) given left entries
    × ((answers : List Bool) × AnswersEach accepts entries answers × TellsAll answers output answer)

-- so they were judged by the public key that has these bytes
abbrev pub JudgesByKey : ParameterSet → (List ℕ → List ℕ) → (List ℕ → List ℕ) → List ℕ → List ℕ → ℕ → Option (List ℕ) → Option (List ℕ)
    → List ℕ → Bool → Type 0
JudgesByKey p H G key context count given left output answer = (pk : PublicParts) × IsPublicKeyOf H p.k key pk
    × JudgesEntries (λ signature message. VerifiesInput p H G pk signature (plain message context))
    (signature_length p) count given left output answer
