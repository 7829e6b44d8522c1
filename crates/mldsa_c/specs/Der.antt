-- What the exported calls on keys in DER return (RFC 9881). A last status is the result: of a key of another parameter set
-- it is 21, of one whose parts do not belong together 22, and of one without a seed 23.
use Rattle.std.specs.Prelude.{◌≡◌, ◌≢◌, ℕ, Bool, List, [], length, Result, MatchBool, MatchResult}
use Rattle.fips204.specs.ParameterSets.{ParameterSet}
use Rattle.fips204.specs.Encodings.{private_key_bytes}
use Rattle.fips204.specs.Refusals.{generated}
use Rattle.fips204.specs.Sets.{named_set}
use Rattle.fips204.specs.declared.sets.SetName.{SetName}
use Rattle.fips204_shake.specs.Bytes as bytes
use Rattle.fips204_base.specs.declared.fault.Fault.TheVariants.{KeyRange}
use Rattle.fips204_shake.specs.declared.bytes.refusal.Refusal.{Refusal}
use Rattle.fips204_shake.specs.declared.bytes.refusal.Refusal.TheVariants.{Library}
use Rattle.fips204_shake.specs.Keys.{FileParts, Seed, Expanded, Both, file_parts, public_length, private_length, public_file_length, private_file_length, IsPublicFile, IsPrivateFile}
use Rattle.fips204_shake.specs.Reading.{public_at, private_at}
use Rattle.fips204_shake.specs.declared.der.fault.DerFault.{DerFault}
use Rattle.fips204_shake.specs.declared.der.keys.PrivateKey.{PrivateKey}
use Rattle.fips204_shake.specs.Fronts.{shake256_front, shake128_front}
use Rattle.mldsa_c.specs.Calls.{IfSized}
use Rattle.mldsa_c.specs.Pieces.{Keeps}
use Rattle.mldsa_c.specs.Numbers.{status_of, status_of_der}
use Rattle.mldsa_c.specs.Statuses.{refusal_status}

-- two values are the same, or the call returns an error
abbrev pub IfSame : {A : Type 0} → A → A → Type 0 → Type 0 → Type 0
IfSame one other fits refuses = ((one ≡ other) → fits) × ((one ≢ other) → refuses)

-- the private key that a seed generates is used, or the call returns an error
abbrev pub IfGenerated : ParameterSet → List ℕ → (List ℕ → Type 0) → (ℕ → Type 0) → Type 0
IfGenerated p seed uses refuses =
    MatchResult (generated p shake256_front shake128_front seed) (λ pair. uses (private_key_bytes p.eta pair.1)) (λ fault. refuses (status_of fault))

-- why a private key is not one of a pair: bytes that are no key at all have no parts that belong together either
abbrev pub status_of_pair : Refusal → ℕ
status_of_pair (Library KeyRange) = 22
status_of_pair why = refusal_status why

-- a private key and the public key that belongs to it are a pair, or the call returns an error
abbrev pub IfPair : ParameterSet → List ℕ → Type 0 → (ℕ → Type 0) → Type 0
IfPair p key fits refuses = (answer : Result Bool Refusal) × bytes.ChecksPair p shake256_front shake128_front key answer
    × MatchResult answer (λ pair. MatchBool pair fits (refuses 22)) (λ why. refuses (status_of_pair why))

-- a private key in DER has keys, and the expanded one is used, or the call returns an error: the seed generates it, and
-- it is the one beside the seed; or an expanded key alone is one of a pair
abbrev pub IfConsistent : ParameterSet → FileParts → (List ℕ → Type 0) → (ℕ → Type 0) → Type 0
IfConsistent p (Seed seed) uses refuses = IfGenerated p seed uses refuses
IfConsistent p (Expanded expanded) uses refuses = IfPair p expanded (uses expanded) refuses
IfConsistent p (Both seed expanded) uses refuses = IfGenerated p seed (λ key. IfSame key expanded (uses key) (refuses 22)) refuses

-- the same of its seed, if it has one; nothing is generated but beside an expanded key
abbrev pub IfSeed : ParameterSet → FileParts → (List ℕ → Type 0) → (ℕ → Type 0) → Type 0
IfSeed p (Seed seed) uses refuses = uses seed
IfSeed p (Expanded expanded) uses refuses = refuses 23
IfSeed p (Both seed expanded) uses refuses = IfConsistent p (Both seed expanded) (λ key. uses seed) refuses

-- reading a key of a parameter set: the key, or the first fault from the beginning of the DER
abbrev pub Reads : {A : Type 0} → Result (SetName × A) DerFault → SetName → (A → Type 0) → (ℕ → Type 0) → Type 0
Reads read set uses refuses = MatchResult read (λ x. IfSame x.0 set (uses x.1) (refuses 21)) (λ fault. refuses (status_of_der fault))

-- a private key was read that has these parts
abbrev pub IsKey : Result PrivateKey ℕ → FileParts → Type 0
IsKey read parts = MatchResult read (λ key. file_parts key ≡ parts) (λ why. ⊥)

-- an array has these bytes
abbrev pub Has : List ℕ → ℕ → List ℕ → Type 0
Has new status bytes = (new ≡ bytes) × (status ≡ 0)

-- public_key_from_der: by the file that the bytes are, and by the first fault
pub record PublicKeyFromDer (set : SetName) (der old new : List ℕ) (status : ℕ) : Type 0 where
  pub found : status ≡ 0 → IsPublicFile der set new
  pub only : (key : List ℕ) → IsPublicFile der set key → length old ≡ public_length set → Has new status key
  pub exact : IfSized (public_length set) old (Reads (public_at der) set (Has new status) (Keeps old new status)) (Keeps old new status 3)

-- private_key_from_der, and seed_from_der
pub record FromPrivateDer (set : SetName) (wanted : ℕ) (der old : List ℕ) (writes : FileParts → Type 0) (keeps : ℕ → Type 0) : Type 0 where
  pub only : (parts : FileParts) → IsPrivateFile der set parts → length old ≡ wanted → writes parts
  pub exact : IfSized wanted old (Reads (private_at der) set writes keeps) (keeps 3)

abbrev pub PrivateKeyFromDer : SetName → List ℕ → List ℕ → List ℕ → ℕ → Type 0
PrivateKeyFromDer set der old new status =
    FromPrivateDer set (private_length set) der old (λ parts. IfConsistent (named_set set) parts (Has new status) (Keeps old new status)) (Keeps old new status)

abbrev pub SeedFromDer : SetName → List ℕ → List ℕ → List ℕ → ℕ → Type 0
SeedFromDer set der old new status =
    FromPrivateDer set 32 der old (λ parts. IfSeed (named_set set) parts (Has new status) (Keeps old new status)) (Keeps old new status)

-- public_key_to_der
abbrev pub PublicKeyToDer : SetName → List ℕ → List ℕ → List ℕ → ℕ → Type 0
PublicKeyToDer set key old new status =
    IfSized (public_length set) key (IfSized (public_file_length set) old (IsPublicFile new set key × (status ≡ 0)) (Keeps old new status 3)) (Keeps old new status 3)

-- private_key_to_der, seed_to_der and both_to_der: what is given has its length, and so has the file with these parts
abbrev pub ToPrivateDer : SetName → FileParts → ℕ → List ℕ → List ℕ → List ℕ → ℕ → Type 0 → Type 0
ToPrivateDer set parts wanted given old new status fits =
    IfSized wanted given (IfSized (private_file_length (private_length set) parts) old fits (Keeps old new status 3)) (Keeps old new status 3)

-- the file of a private key with these parts is written
abbrev pub IsFile : SetName → FileParts → List ℕ → ℕ → Type 0
IsFile set parts new status = IsPrivateFile new set parts × (status ≡ 0)

abbrev pub SeedToDer : SetName → List ℕ → List ℕ → List ℕ → ℕ → Type 0
SeedToDer set seed old new status = ToPrivateDer set (Seed seed) 32 seed old new status (IsFile set (Seed seed) new status)

abbrev pub PrivateKeyToDer : SetName → List ℕ → List ℕ → List ℕ → ℕ → Type 0
PrivateKeyToDer set key old new status =
    ToPrivateDer set (Expanded key) (private_length set) key old new status
    (IfPair (named_set set) key (IsFile set (Expanded key) new status) (Keeps old new status))

abbrev pub BothToDer : SetName → List ℕ → List ℕ → List ℕ → ℕ → Type 0
BothToDer set seed old new status =
    ToPrivateDer set (Both seed []) 32 seed old new status
    (IfGenerated (named_set set) seed (λ key. IsFile set (Both seed key) new status) (Keeps old new status))
