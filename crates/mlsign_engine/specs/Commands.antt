-- What the commands return, by the files and keys that they are given and the message that is read.
use Rattle.std.specs.Prelude.{◌≡◌, ◌<◌, ◌↔◌, ◌⊎◌, ℕ, List, length, Bool, IsTrue, Option, Ok, Err}
use Rattle.fips204.specs.fault.Fault.{Fault}
use Rattle.fips204.specs.Encodings.{PublicParts, PrivateParts, IsPublicKeyOf, IsPrivateKeyOf}
use Rattle.fips204.specs.ParameterSets.{ParameterSet, signature_length}
use Rattle.fips204.specs.Sets.{named_set}
use Rattle.fips204.specs.Refusals.{generated, derived, sign_input, VerifiesInput}
use Rattle.fips204.specs.Framing.{plain}
use Rattle.fips204.specs.Prepared.{prepared_public}
use Rattle.fips204.specs.declared.sets.SetName.{SetName}
use Rattle.fips204_shake.specs.declared.bytes.refusal.Refusal.{Refusal}
use Rattle.fips204_shake.specs.declared.bytes.refusal.Refusal.TheVariants as refusal
use Rattle.fips204_shake.specs.Fronts.{shake256_front, shake128_front}
use Rattle.mlsign_engine.specs.Forms.{IsPublicIn, IsPrivateIn, read_as, HasPublic, HasPrivate, public_in, private_in, ConvertsPrivate}
use Rattle.mlsign_engine.specs.Keys.{PublicValue, PairValue, HasKeys, HasBytes, IsConsistent, public_of_pair}
use Rattle.mlsign_engine.specs.Messages.{GivesAll, FailsToGive}
use Rattle.mlsign_engine.specs.declared.fault.CommandFault.{CommandFault}
use Rattle.mlsign_engine.specs.declared.fault.CommandFault.TheVariants.{Key, Inconsistent, Library, Context, Memory, Message}
use Rattle.mlsign_engine.specs.declared.forms.Form.{Form}
use Rattle.mlsign_engine.specs.declared.forms.Form.TheVariants.{Pem}
use Rattle.mlsign_engine.specs.declared.forms.Parts.TheVariants.{Kept}
use Rattle.mlsign_engine.specs.declared.keys.AnyKey.{AnyKey}
use Rattle.mlsign_engine.specs.declared.keys.AnyKey.TheVariants as key
use Rattle.fips204_shake.specs.Keys.{FileParts, Seed, Expanded, Both}
use Rattle.mlsign_engine.specs.PemReading.{FailsLike}
use Rattle.mlsign_engine.specs.declared.fault.FileFault.{FileFault}
use Rattle.mlsign_engine.specs.declared.fault.FileFault.TheVariants.{OtherKind}
use Rattle.mlsign_engine.specs.declared.pem.Kind.TheVariants.{Public, Private}

-- an error of the calls over bytes as a fault; a wrong length is that of a key which belongs to no parameter set
abbrev pub fault_of : Refusal → CommandFault
fault_of (refusal.Library fault) = Library fault
fault_of (refusal.Length which) = Inconsistent
fault_of refusal.NotPrepared = Inconsistent

-- the public key accepts these bytes as a signature of the message
abbrev pub IsValid : ParameterSet → PublicParts → List ℕ → List ℕ → List ℕ → Type 0
IsValid p key signature context message =
    (length signature ≡ signature_length p) × VerifiesInput p shake256_front shake128_front key signature (plain message context)

-- so does the public key with these bytes
abbrev pub IsValidUnder : ParameterSet → List ℕ → List ℕ → List ℕ → List ℕ → Type 0
IsValidUnder p key signature context message = (pk : PublicParts) × IsPublicKeyOf shake256_front p.k key pk × IsValid p pk signature context message

-- `verify`: the result is whether the key accepts the signature
pub record Judges (public : PublicValue) (signature context message : List ℕ) (valid : Bool) : Type 0 where
  pub answer : IsTrue valid ↔ IsValidUnder (named_set public.algorithm) public.bytes signature context message

-- the library's error in making the keys of a private key in a file: those of its seed, or the public key of the
-- expanded one
abbrev pub IsRefused : ParameterSet → FileParts → Fault → Type 0
IsRefused p (Seed seed) fault = generated p shake256_front shake128_front seed ≡ Err fault
IsRefused p (Expanded expanded) fault =
    (sk : PrivateParts) × IsPrivateKeyOf p.eta p.k p.l expanded sk × (derived p shake128_front sk ≡ Err fault)
IsRefused p (Both seed expanded) fault = generated p shake256_front shake128_front seed ≡ Err fault

-- why a private key in a file has no keys: none belong to it, though the library returns no error, or the library's
-- error
abbrev pub HasNoKeys : ParameterSet → FileParts → CommandFault → Type 0
HasNoKeys p parts Inconsistent = ((pk : PublicParts) (sk : PrivateParts) → ¬ (HasKeys p parts pk sk)) × ((fault : Fault) → ¬ (IsRefused p parts fault))
HasNoKeys p parts (Library fault) = IsRefused p parts fault
HasNoKeys p parts fault = ⊥

-- there are no keys, or memory ran out
abbrev pub HasNoKeysOrMemory : ParameterSet → FileParts → CommandFault → Type 0
HasNoKeysOrMemory p parts Memory = Unit {0}
HasNoKeysOrMemory p parts fault = HasNoKeys p parts fault

-- why a file's private key is not had: the file's first fault, or why the key in it has no keys; memory may run out of itself
abbrev pub FailsPrivate : Form → SetName → List ℕ → CommandFault → Type 0
FailsPrivate form set file (Key fault) = FailsLike fault (private_in form set file)
FailsPrivate form set file Memory = Unit {0}
FailsPrivate form set file fault =
    (algorithm : SetName) × (parts : FileParts) × HasPrivate form set file algorithm parts × HasNoKeys (named_set algorithm) parts fault

-- a file has this key, of either kind
abbrev pub HasKey : Form → SetName → List ℕ → AnyKey → Type 0
HasKey form set file (key.Public public) = HasPublic form set file public.algorithm public.bytes
HasKey form set file (key.Private pair) = HasPrivate form set file pair.algorithm pair.parts × IsConsistent pair

-- a public key has no matrix: rejection sampling reaches its limit
abbrev pub HasNoMatrix : PublicValue → Fault → Type 0
HasNoMatrix public fault = (pk : PublicParts) × IsPublicKeyOf shake256_front (named_set public.algorithm).k public.bytes pk
    × (prepared_public (named_set public.algorithm) shake128_front pk ≡ Err fault)

-- why a public key is not prepared: it has no matrix; memory may run out of itself
abbrev pub FailsToPrepare : PublicValue → CommandFault → Type 0
FailsToPrepare public (Library fault) = HasNoMatrix public fault
FailsToPrepare public Memory = Unit {0}
FailsToPrepare public fault = ⊥

-- why a file's key of either kind is not had: the first fault of a text as a public key's, unless it has a key of another kind; or why no
-- private key is had of it
abbrev pub FailsToHaveKey : Form → SetName → List ℕ → CommandFault → Type 0
FailsToHaveKey form set file fault =
    ((why : FileFault) × (fault ≡ Key why) × FailsLike why (public_in form set file) × (form ≡ Pem) × ¬ (why ≡ OtherKind))
    ⊎ (((why : FileFault) × FailsLike why (public_in form set file) × (form ≡ Pem → why ≡ OtherKind)) × FailsPrivate form set file fault)

-- `sign`: the keys are those of a file, and consistent, and these bytes are the private one's signature of the message, over these random
-- bytes, which the public one accepts
pub record IsSigned (p : ParameterSet) (parts : FileParts) (random context message signature : List ℕ) : Type 0 where
  pub pk : PublicParts
  pub sk : PrivateParts
  pub keys : HasKeys p parts pk sk
  pub signed : sign_input p shake256_front shake128_front sk random (plain message context) ≡ Ok signature
  pub accepted : IsValid p pk signature context message

-- the library's error in signing the message with the private key
abbrev pub CannotSign : ParameterSet → FileParts → List ℕ → List ℕ → List ℕ → Fault → Type 0
CannotSign p parts random context message fault = (pk : PublicParts) × (sk : PrivateParts) × HasKeys p parts pk sk
    × (sign_input p shake256_front shake128_front sk random (plain message context) ≡ Err fault)

-- why `sign` has no signature: the context is too long; the message was not read, or the library returned an error;
-- memory may run out of itself
abbrev pub FailsToSign : {S : Type 0} → (S → Option ℕ → List ℕ → S → Type 0) → (S → Option (List ℕ)) → S → S → PairValue → List ℕ → List ℕ → CommandFault → Type 0
FailsToSign gives remaining old new pair random context Context = 255 < length context
FailsToSign gives remaining old new pair random context Message = FailsToGive gives old new
FailsToSign gives remaining old new pair random context (Library fault) =
    (message : List ℕ) × GivesAll gives remaining old new message × CannotSign (named_set pair.algorithm) pair.parts random context message fault
FailsToSign gives remaining old new pair random context Memory = Unit {0}
FailsToSign gives remaining old new pair random context fault = ⊥

-- why `verify` has no result: the context is too long, or the message was not read
abbrev pub FailsToJudge : {S : Type 0} → (S → Option ℕ → List ℕ → S → Type 0) → S → S → List ℕ → CommandFault → Type 0
FailsToJudge gives old new context Context = 255 < length context
FailsToJudge gives old new context Message = FailsToGive gives old new
FailsToJudge gives old new context fault = ⊥

-- `keygen`: the files have both keys of a seed in this form; that of the private one has the seed
pub record MakesTexts (form : Form) (algorithm : SetName) (seed private public : List ℕ) : Type 0 where
  pub public_bytes : List ℕ
  pub private_bytes : List ℕ
  pub keys : HasBytes (named_set algorithm) (Seed seed) public_bytes private_bytes
  pub private_file : IsPrivateIn form private algorithm (Seed seed)
  pub public_file : IsPublicIn form public algorithm public_bytes

-- why `keygen` has no keys: why the seed has none, but never that its keys are inconsistent; memory may run out of itself
abbrev pub FailsToGenerate : SetName → List ℕ → CommandFault → Type 0
FailsToGenerate algorithm seed fault = HasNoKeysOrMemory (named_set algorithm) (Seed seed) fault × ¬ (fault ≡ Inconsistent)

-- what a consistent private key signed, its public key accepts
abbrev pub SignedIsValid : Type 0
SignedIsValid =
    (pair : PairValue) (random context message signature : List ℕ) (valid : Bool) → IsConsistent pair
    → IsSigned (named_set pair.algorithm) pair.parts random context message signature
    → Judges (public_of_pair pair) signature context message valid → IsTrue valid

-- what is signed with the private key of a file, is accepted with the public key of a file that has that key's public one, and with that of
-- the file that `keygen` wrote beside it; both are in one form, and raw bytes are read at the key's set
abbrev pub FilesBelong : Type 0
FilesBelong =
    (form : Form) (pair : PairValue) (public : PublicValue) (file random context message signature : List ℕ) (valid : Bool) → IsConsistent pair
    → IsPublicIn form file pair.algorithm pair.public → HasPublic form pair.algorithm file public.algorithm public.bytes
    → IsSigned (named_set pair.algorithm) pair.parts random context message signature → Judges public signature context message valid → IsTrue valid

abbrev pub MadeFilesBelong : Type 0
MadeFilesBelong =
    (form : Form) (algorithm : SetName) (pair : PairValue) (public : PublicValue) (seed private_file public_file random context message signature : List ℕ) (valid : Bool)
    → MakesTexts form algorithm seed private_file public_file
    → HasPrivate form algorithm private_file pair.algorithm pair.parts → HasPublic form algorithm public_file public.algorithm public.bytes
    → IsSigned (named_set pair.algorithm) pair.parts random context message signature → Judges public signature context message valid → IsTrue valid

-- a file that is converted to another form, and what was written of it to the first form again, with the parts that it has, is the same file:
-- its bytes, and of a text the strict form of both; raw bytes are read at the key's set
pub record ComeBack : Type 0 where
  pub private : (form other : Form) (set : SetName) (first second : PairValue) (file between again : List ℕ)
      → HasPrivate form set file first.algorithm first.parts → ConvertsPrivate other Kept first between
      → HasPrivate other first.algorithm between second.algorithm second.parts → ConvertsPrivate form Kept second again
      → read_as form Private again ≡ read_as form Private file
  pub public : (form other : Form) (set : SetName) (first second : PublicValue) (file between again : List ℕ)
      → HasPublic form set file first.algorithm first.bytes → IsPublicIn other between first.algorithm first.bytes
      → HasPublic other first.algorithm between second.algorithm second.bytes → IsPublicIn form again second.algorithm second.bytes
      → read_as form Public again ≡ read_as form Public file
