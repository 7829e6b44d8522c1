-- An append-only ledger, for an example: each entry signs the hash of the entry before it, and what is recorded.
use Rattle.std.specs.Prelude.{◌≡◌, ◌⊎◌, ◌<◌, ℕ, ◌-◌, List, [], ◌∷◌, ◌++◌, length, replicate, slice_index_or, nat_eq, if◌then◌else◌, Result, Ok, Err, MatchResult}
use Rattle.sha2.specs.Sha256.{sha256}
use Rattle.fips204_base.specs.declared.fault.Fault.{Fault}
use Rattle.fips204_base.specs.Encodings.{PublicParts, PrivateParts}
use Rattle.fips204.specs.Keys.{IsWhole}
use Rattle.fips204.specs.ParameterSets.{set_44}
use Rattle.fips204.specs.Prepared.{PreparedPublic, VerifiesPrepared}
use Rattle.fips204.specs.Refusals.{derived, sign_input, VerifiesInput}
use Rattle.fips204.specs.Framing.{plain}
use Rattle.mldsa_examples.specs.declared.ledger.AppendFault.{AppendFault}
use Rattle.mldsa_examples.specs.declared.ledger.AppendFault.TheVariants.{Signing, OutOfMemory}
use Rattle.mldsa_examples.specs.declared.ledger.Entry.{Entry}

-- the entry at a place
abbrev pub entry_at : List Entry → ℕ → Entry
entry_at ledger place = slice_index_or ledger place record { previous = []; payload = []; signature = [] }

-- the hash of an entry, with its signature
abbrev pub entry_hash : Entry → List ℕ
entry_hash entry = sha256 (entry.previous ++ entry.payload ++ entry.signature)

-- the hash of the entry before a place; zeros before the first
abbrev pub hash_before : List Entry → ℕ → List ℕ
hash_before ledger place = if nat_eq place 0 then replicate 32 0 else entry_hash (entry_at ledger (place - 1))

-- the entry at a place fits: it has the hash of the entry before it, and its signature of that hash and the payload is accepted
pub record Fits (accepts : List ℕ → List ℕ → Type 0) (ledger : List Entry) (place : ℕ) : Type 0 where
  pub linked : (entry_at ledger place).previous ≡ hash_before ledger place
  pub signed : accepts ((entry_at ledger place).previous ++ (entry_at ledger place).payload) (entry_at ledger place).signature

-- each entry fits
abbrev pub EachFits : (List ℕ → List ℕ → Type 0) → List Entry → Type 0
EachFits accepts ledger = (place : ℕ) → place < length ledger → Fits accepts ledger place

-- a ledger stands under a public key: each entry fits, by the signatures that the key accepts
abbrev pub Stands : (List ℕ → List ℕ) → (List ℕ → List ℕ) → PublicParts → List ℕ → List Entry → Type 0
Stands H G key context ledger = EachFits (λ message signature. VerifiesInput set_44 H G key signature (plain message context)) ledger

-- the same under a prepared public key: the entry at a place fits, and each does
abbrev pub FitsPrepared : (List ℕ → List ℕ) → PreparedPublic → List ℕ → List Entry → ℕ → Type 0
FitsPrepared H key context ledger place = Fits (λ message signature. VerifiesPrepared set_44 H key signature (plain message context)) ledger place

abbrev pub StandsPrepared : (List ℕ → List ℕ) → PreparedPublic → List ℕ → List Entry → Type 0
StandsPrepared H key context ledger = (place : ℕ) → place < length ledger → FitsPrepared H key context ledger place

-- if the owner's key is consistent, and the old ledger stood under its public key, the new one stands under it
abbrev pub StaysStanding : (List ℕ → List ℕ) → (List ℕ → List ℕ) → PrivateParts → List ℕ → List Entry → List Entry → Type 0
StaysStanding H G owner context old new =
    (key : PublicParts) → IsWhole set_44 G owner → derived set_44 G owner ≡ Ok key → Stands H G key context old → Stands H G key context new

-- what is appended: an entry with the hash of the last one, the payload, and the key's signature of both
pub record IsNext (H G : List ℕ → List ℕ) (owner : PrivateParts) (context random payload : List ℕ) (ledger : List Entry) (entry : Entry) : Type 0 where
  pub linked : entry.previous ≡ hash_before ledger (length ledger)
  pub recorded : entry.payload ≡ payload
  pub signed : sign_input set_44 H G owner random (plain (entry.previous ++ entry.payload) context) ≡ Ok entry.signature

-- what appending returns: one entry more; or the ledger as it was, where the key does not sign, or there is no memory
abbrev pub AppendsAs : (List ℕ → List ℕ) → (List ℕ → List ℕ) → PrivateParts → List ℕ → List ℕ → List ℕ → List Entry → List Entry → Result Unit AppendFault → Type 0
AppendsAs H G owner context random payload old new answer = MatchResult answer
    (λ _. (entry : Entry) × IsNext H G owner context random payload old entry × (new ≡ old ++ entry ∷ []))
    (λ refusal. (new ≡ old) × ((refusal ≡ OutOfMemory)
    ⊎ ((fault : Fault) × (refusal ≡ Signing fault) × (sign_input set_44 H G owner random (plain (hash_before old (length old) ++ payload) context) ≡ Err fault))))
