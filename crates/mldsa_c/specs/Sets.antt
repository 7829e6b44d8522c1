-- The lengths and the name of a parameter set by its number. A last status is the result.
use Rattle.std.specs.Prelude.{◌≡◌, ◌-◌, ℕ, List, [], ◌∷◌, ◌++◌, length, replicate, codes, nat_eq, if◌then◌else◌, Option, Some, None, MatchOption}
use Rattle.std.specs.Int.{w32, to_le_bytes}
use Rattle.std.specs.List.{flat_map}
use Rattle.fips204.specs.ParameterSets.{signature_length}
use Rattle.fips204.specs.PreparedBytes.{prepared_public_length, prepared_private_length}
use Rattle.fips204.specs.Sets.{named_set}
use Rattle.fips204.specs.declared.sets.SetName.{SetName}
use Rattle.fips204.specs.declared.sets.SetName.TheVariants.{MlDsa44, MlDsa65, MlDsa87}
use Rattle.fips204_shake.specs.Keys.{FileParts, Seed, Expanded, Both, seed_length, public_length, private_length, public_file_length, private_file_length}
use Rattle.mldsa_c.specs.Calls.{IfSized}
use Rattle.mldsa_c.specs.Pieces.{Keeps}

-- the set of a number
abbrev pub numbered_set : ℕ → Option SetName
numbered_set number =
    if nat_eq number 44 then Some MlDsa44 else (if nat_eq number 65 then Some MlDsa65 else (if nat_eq number 87 then Some MlDsa87 else None))

-- the bytes of the file of a private key with these parts
abbrev pub file_length : SetName → FileParts → ℕ
file_length set parts = private_file_length (private_length set) parts

-- the bytes of a public key, a private key, a signature, a seed, what signing draws, mu, a state, the prepared keys, and the
-- files of a public key, a seed, an expanded key, and both
abbrev pub lengths_of : SetName → List ℕ
lengths_of set =
    public_length set ∷ private_length set ∷ signature_length (named_set set) ∷ seed_length ∷ 32 ∷ 64 ∷ 337
    ∷ prepared_public_length (named_set set) ∷ prepared_private_length (named_set set)
    ∷ public_file_length set ∷ file_length set (Seed []) ∷ file_length set (Expanded []) ∷ file_length set (Both [] []) ∷ []

abbrev pub name_of : SetName → List ℕ
name_of MlDsa44 = codes "ML-DSA-44"
name_of MlDsa65 = codes "ML-DSA-65"
name_of MlDsa87 = codes "ML-DSA-87"

-- an array of the wanted length has what is written of the set of a number, or the call returns an error
abbrev pub WritesOfSet : ℕ → ℕ → (SetName → List ℕ) → List ℕ → List ℕ → ℕ → Type 0
WritesOfSet wanted number bytes old new status =
    IfSized wanted old (MatchOption (numbered_set number) (Keeps old new status 2) (λ set. (new ≡ bytes set) × (status ≡ 0))) (Keeps old new status 3)

-- lengths: each in four bytes, the lowest first
abbrev pub LengthsAnswers : ℕ → List ℕ → List ℕ → ℕ → Type 0
LengthsAnswers number old new status = WritesOfSet 52 number (λ set. flat_map (to_le_bytes w32) (lengths_of set)) old new status

-- name: with zeros behind it, in 16 bytes
abbrev pub NameAnswers : ℕ → List ℕ → List ℕ → ℕ → Type 0
NameAnswers number old new status = WritesOfSet 16 number (λ set. name_of set ++ replicate (16 - length (name_of set)) 0) old new status
