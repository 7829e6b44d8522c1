-- What was read of DER, and what is done with it.
use Rattle.std.proofs.Common.{◌≡◌, ℕ, List, length, Result, Ok, Err, refl, subst}
use Rattle.fips204.specs.declared.sets.SetName.{SetName}
use Rattle.fips204_shake.specs.Keys.{FileParts, Seed, file_parts, private_length, private_file_length, public_length, public_file_length, IsPublicFile, IsPrivateFile}
use Rattle.fips204_shake.specs.Reading.{private_at}
use Rattle.fips204_shake.specs.declared.der.fault.DerFault.{DerFault}
use Rattle.fips204_shake.specs.declared.der.keys.PrivateKey.{PrivateKey}
use Rattle.fips204_shake.proofs.KeyFiles.{private_of_file}
use Rattle.mldsa_c.specs.Der.{Reads, IsKey, FromPrivateDer, PublicKeyToDer, SeedToDer}
use Rattle.mldsa_c.proofs.ByStatus.{sized}

-- what holds of a key that is read, or of a status
reads_as : (read : Result (SetName × FileParts) DerFault) (set : SetName) (P Q : FileParts → Type 0) (S T : ℕ → Type 0)
    → ((parts : FileParts) → P parts → Q parts) → ((why : ℕ) → S why → T why) → Reads read set P S → Reads read set Q T
reads_as (Ok x) set P Q S T uses refuses reads = (λ same. uses x.1 (reads.0 same), λ other. refuses 21 (reads.1 other))
reads_as (Err fault) set P Q S T uses refuses reads = refuses _ reads

-- the same of the file that the bytes are
from_file : (set : SetName) (wanted : ℕ) (der old : List ℕ) (writes : FileParts → Type 0) (keeps : ℕ → Type 0) → length old ≡ wanted
    → Reads (private_at der) set writes keeps → FromPrivateDer set wanted der old writes keeps
from_file set wanted der old writes keeps size reads = record {
  only = λ parts file _.
      let moved : Reads (Ok (set, parts)) set writes keeps =
      subst (λ (read : Result (SetName × FileParts) DerFault). Reads read set writes keeps) (private_of_file der set parts file) reads in
      moved.0 refl;
  exact = (λ _. reads, λ other. absurd (other size));
}

abbrev OkKey : PrivateKey → Result PrivateKey ℕ
OkKey key = Ok key

abbrev ErrKey : ℕ → Result PrivateKey ℕ
ErrKey status = Err status

no_status : (key : PrivateKey) (why : ℕ) (T : Type 0) → OkKey key ≡ Err why → T
no_status key why T e = absurd cc

one_status : (status why : ℕ) → ErrKey status ≡ Err why → status ≡ why
one_status status why e = cc

-- a key was read, or a status was given
pub of_key : (set : SetName) (wanted : ℕ) (der old : List ℕ) (read : Result PrivateKey ℕ) (key : PrivateKey) (writes : FileParts → Type 0) (keeps : ℕ → Type 0)
    → length old ≡ wanted → read ≡ Ok key → writes (file_parts key) → Reads (private_at der) set (λ parts. IsKey read parts) (λ why. read ≡ Err why)
    → FromPrivateDer set wanted der old writes keeps
of_key set wanted der old read key writes keeps size is written told =
    let read_as : Reads (private_at der) set (λ parts. IsKey (OkKey key) parts) (λ why. OkKey key ≡ Err why) = rw is at told in
    from_file set wanted der old writes keeps size (reads_as (private_at der) set (λ parts. IsKey (OkKey key) parts) writes (λ why. OkKey key ≡ Err why) keeps
    (λ parts same. subst writes same written) (λ why e. no_status key why (keeps why) e) read_as)

pub of_status : (set : SetName) (wanted : ℕ) (der old : List ℕ) (read : Result PrivateKey ℕ) (status : ℕ) (writes : FileParts → Type 0) (keeps : ℕ → Type 0)
    → length old ≡ wanted → read ≡ Err status → keeps status → Reads (private_at der) set (λ parts. IsKey read parts) (λ why. read ≡ Err why)
    → FromPrivateDer set wanted der old writes keeps
of_status set wanted der old read status writes keeps size is kept told =
    let read_as : Reads (private_at der) set (λ parts. IsKey (ErrKey status) parts) (λ why. ErrKey status ≡ Err why) = rw is at told in
    from_file set wanted der old writes keeps size (reads_as (private_at der) set (λ parts. IsKey (ErrKey status) parts) writes (λ why. ErrKey status ≡ Err why) keeps
    (λ parts none. absurd none) (λ why e. subst keeps (one_status status why e) kept) read_as)

-- what was written is a file
pub public_file : (set : SetName) (key none der : List ℕ) → PublicKeyToDer set key none der 0 → IsPublicFile der set key
public_file set key none der writes =
    (sized (public_file_length set) none (sized (public_length set) key writes (λ (_, two). absurd cc)) (λ (_, two). absurd cc)).0

pub seed_file : (set : SetName) (seed none der : List ℕ) → SeedToDer set seed none der 0 → IsPrivateFile der set (Seed seed)
seed_file set seed none der writes =
    (sized (private_file_length (private_length set) (Seed seed)) none (sized 32 seed writes (λ (_, two). absurd cc)) (λ (_, two). absurd cc)).0
