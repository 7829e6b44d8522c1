-- The files of a private and of a public key, for an example: a byte of the version, one of the parameter set, and the
-- key's bytes.
use Rattle.std.specs.Prelude.{◌≡◌, ◌⊎◌, ℕ, List, ◌∷◌, length, take, drop, slice_index, nat_eq, Option, Some, None, Result, Ok, Err, MatchResult, if◌then◌else◌}
use Rattle.fips204_base.specs.Encodings.{PublicParts, PrivateParts, ArePublicParts, ArePrivateParts, IsPublicKeyOf, IsPrivateKeyOf, public_key_bytes, private_key_bytes}
use Rattle.fips204_base.specs.declared.fault.Fault.TheVariants.{SamplingLimit}
use Rattle.fips204.specs.ParameterSets.{set_44}
use Rattle.fips204.specs.Refusals.{derived}
use Rattle.mldsa_examples.specs.declared.key_store.LoadFault.{LoadFault}
use Rattle.mldsa_examples.specs.declared.key_store.LoadFault.TheVariants.{WrongLength, WrongHeader, WrongSet, WrongRange, NoMatrix, OtherKey}

-- the files of two keys: version 1, set 44, and the key's bytes
abbrev pub file_of : PrivateParts → List ℕ
file_of sk = 1 ∷ 44 ∷ private_key_bytes 2 sk

abbrev pub public_file_of : PublicParts → List ℕ
public_file_of pk = 1 ∷ 44 ∷ public_key_bytes pk.rho pk.t1

-- the error of a file of so many bytes before its key is read, in this order
abbrev pub file_fault : ℕ → List ℕ → Option LoadFault
file_fault size file =
    if nat_eq (length file) size then (if nat_eq (slice_index file 0) 1 then (if nat_eq (slice_index file 1) 44 then None else Some WrongSet) else Some WrongHeader)
    else Some WrongLength

-- what reading the header returns: the bytes after it, or the first of these errors
abbrev pub HasBytes : ℕ → List ℕ → Result (List ℕ) LoadFault → Type 0
HasBytes size file answer = MatchResult answer
    (λ bytes. (file_fault size file ≡ None) × (file ≡ 1 ∷ 44 ∷ bytes))
    (λ fault. file_fault size file ≡ Some fault)

-- what loading returns: the key whose bytes stand after the header, or the first error
abbrev pub LoadsAs : List ℕ → Result PrivateParts LoadFault → Type 0
LoadsAs file answer = MatchResult answer
    (λ key. (file_fault 2562 file ≡ None) × IsPrivateKeyOf 2 4 4 (drop 2 file) key)
    (λ fault. (file_fault 2562 file ≡ Some fault)
    ⊎ ((file_fault 2562 file ≡ None) × (fault ≡ WrongRange) × ((key : PrivateParts) → IsPrivateKeyOf 2 4 4 (drop 2 file) key → ⊥)))

-- the same of a public key, which every file with a right header has
abbrev pub LoadsPublicAs : (List ℕ → List ℕ) → List ℕ → Result PublicParts LoadFault → Type 0
LoadsPublicAs H file answer = MatchResult answer
    (λ key. (file_fault 1314 file ≡ None) × IsPublicKeyOf H 4 (drop 2 file) key)
    (λ fault. file_fault 1314 file ≡ Some fault)

-- a file is that of a public key, whose tr is the hash of its bytes
pub record IsFileOf (H : List ℕ → List ℕ) (key : PublicParts) (file : List ℕ) : Type 0 where
  pub spelled : file ≡ public_file_of key
  pub hashed : key.tr ≡ take 64 (H (drop 2 file))

-- what the check of a public key's file returns beside the private key: the public key that is derived of it, whose file it is,
-- or the first error
abbrev pub ChecksAs : (List ℕ → List ℕ) → (List ℕ → List ℕ) → PrivateParts → List ℕ → Result PublicParts LoadFault → Type 0
ChecksAs H G sk file answer = MatchResult answer
    (λ key. (file_fault 1314 file ≡ None) × (derived set_44 G sk ≡ Ok key) × IsFileOf H key file)
    (λ fault. (file_fault 1314 file ≡ Some fault)
    ⊎ ((file_fault 1314 file ≡ None) × (fault ≡ NoMatrix) × (derived set_44 G sk ≡ Err SamplingLimit))
    ⊎ ((file_fault 1314 file ≡ None) × (fault ≡ OtherKey) × (key : PublicParts) × (derived set_44 G sk ≡ Ok key) × (IsFileOf H key file → ⊥)))

-- what is loaded from the file of a private key in range is that key
abbrev pub LoadsStored : Type 0
LoadsStored =
    (sk : PrivateParts) (file : List ℕ) (answer : Result PrivateParts LoadFault) → ArePrivateParts 2 4 4 sk
    → length file ≡ 2562 → file ≡ file_of sk → LoadsAs file answer → answer ≡ Ok sk

-- and from that of a public key in range, whose tr is the hash of its bytes, as key generation makes it
abbrev pub LoadsStoredPublic : Type 0
LoadsStoredPublic =
    (H : List ℕ → List ℕ) (pk : PublicParts) (file : List ℕ) (answer : Result PublicParts LoadFault) → ArePublicParts 4 pk
    → pk.tr ≡ take 64 (H (public_key_bytes pk.rho pk.t1)) → length file ≡ 1314 → file ≡ public_file_of pk → LoadsPublicAs H file answer → answer ≡ Ok pk
