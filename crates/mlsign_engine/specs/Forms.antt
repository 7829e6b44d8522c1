-- Keys in files of each form: what is read, and what is written.
use Rattle.std.specs.Prelude.{◌≡◌, ℕ, ◌==◌, List, length, Option, Some, None, Result, Ok, Err, if◌then◌else◌}
use Rattle.fips204.specs.Encodings.{PublicParts, PrivateParts}
use Rattle.fips204.specs.Sets.{named_set}
use Rattle.fips204.specs.declared.sets.SetName.{SetName}
use Rattle.mlsign_engine.specs.Keys.{PairValue, HasKeys}
use Rattle.mlsign_engine.specs.declared.fault.CommandFault.{CommandFault}
use Rattle.mlsign_engine.specs.declared.fault.CommandFault.TheVariants.{NoSeed, TwoParts, Memory}
use Rattle.mlsign_engine.specs.declared.forms.Form.{Form}
use Rattle.mlsign_engine.specs.declared.forms.Form.TheVariants.{Pem, Der, Raw}
use Rattle.mlsign_engine.specs.declared.forms.Parts.{Parts}
use Rattle.mlsign_engine.specs.declared.forms.Parts.TheVariants as part
use Rattle.fips204_shake.specs.Keys.{IsPublicFile, IsPrivateFile, FileParts, Seed, Expanded, Both, HasPrivateSizes, public_length, private_length, seed_length}
use Rattle.mlsign_engine.specs.Lax.{strict_form}
use Rattle.mlsign_engine.specs.Pem.{IsPem}
use Rattle.mlsign_engine.specs.PemReading.{pem_at}
use Rattle.fips204_shake.specs.Reading.{◌>>=◌, sized_at, public_at, private_at}
use Rattle.fips204_shake.specs.declared.der.fault.DerFault.TheVariants.{KeyLength}
use Rattle.mlsign_engine.specs.Faults.{of_der}
use Rattle.mlsign_engine.specs.declared.fault.FileFault.{FileFault}
use Rattle.mlsign_engine.specs.declared.fault.FileFault.TheVariants as fault
use Rattle.mlsign_engine.specs.declared.pem.Kind.{Kind}
use Rattle.mlsign_engine.specs.declared.pem.Kind.TheVariants.{Public, Private}

-- a text in the strict form has this public key
pub record IsPublicText (text : List ℕ) (algorithm : SetName) (bytes : List ℕ) : Type 0 where
  pub der : List ℕ
  pub spelled : IsPem text Public der
  pub file : IsPublicFile der algorithm bytes

-- or this private key
pub record IsPrivateText (text : List ℕ) (algorithm : SetName) (parts : FileParts) : Type 0 where
  pub der : List ℕ
  pub spelled : IsPem text Private der
  pub file : IsPrivateFile der algorithm parts

-- these bytes are this public key in this form: a text in the strict form, DER, or its raw bytes
abbrev pub IsPublicIn : Form → List ℕ → SetName → List ℕ → Type 0
IsPublicIn Pem file algorithm bytes = IsPublicText file algorithm bytes
IsPublicIn Der file algorithm bytes = IsPublicFile file algorithm bytes
IsPublicIn Raw file algorithm bytes = (length bytes ≡ public_length algorithm) × (file ≡ bytes)

-- the raw bytes of a private key of one part
abbrev pub IsRaw : FileParts → List ℕ → Type 0
IsRaw (Seed seed) file = file ≡ seed
IsRaw (Expanded expanded) file = file ≡ expanded
IsRaw (Both seed expanded) file = ⊥

-- these bytes are this private key in this form
abbrev pub IsPrivateIn : Form → List ℕ → SetName → FileParts → Type 0
IsPrivateIn Pem file algorithm parts = IsPrivateText file algorithm parts
IsPrivateIn Der file algorithm parts = IsPrivateFile file algorithm parts
IsPrivateIn Raw file algorithm parts = HasPrivateSizes (private_length algorithm) parts × IsRaw parts file

-- a text is read in the lax form, and other bytes as they are
abbrev pub read_as : Form → Kind → List ℕ → List ℕ
read_as Pem kind file = strict_form kind file
read_as Der kind file = file
read_as Raw kind file = file

-- the parameter set of a key in raw bytes is named beside them
abbrev pub IsAt : Form → SetName → SetName → Type 0
IsAt Pem set algorithm = Unit {0}
IsAt Der set algorithm = Unit {0}
IsAt Raw set algorithm = algorithm ≡ set

-- a file has this key in this form
abbrev pub HasPublic : Form → SetName → List ℕ → SetName → List ℕ → Type 0
HasPublic form set file algorithm bytes = IsPublicIn form (read_as form Public file) algorithm bytes × IsAt form set algorithm

abbrev pub HasPrivate : Form → SetName → List ℕ → SetName → FileParts → Type 0
HasPrivate form set file algorithm parts = IsPrivateIn form (read_as form Private file) algorithm parts × IsAt form set algorithm

-- reading a file in this form: its key, or its first fault. Of raw bytes the length is all that there is to read.
abbrev pub public_in : Form → SetName → List ℕ → Result (SetName × List ℕ) FileFault
public_in Pem set file = pem_at Public (strict_form Public file) >>= (λ der. of_der (public_at der))
public_in Der set file = of_der (public_at file)
public_in Raw set file = of_der (sized_at (public_length set) file) >>= (λ bytes. Ok (set, bytes))

abbrev pub raw_private_at : SetName → List ℕ → Result (SetName × FileParts) FileFault
raw_private_at set file =
    if length file == seed_length then Ok (set, Seed file)
    else if length file == private_length set then Ok (set, Expanded file)
    else Err (fault.Der KeyLength)

abbrev pub private_in : Form → SetName → List ℕ → Result (SetName × FileParts) FileFault
private_in Pem set file = pem_at Private (strict_form Private file) >>= (λ der. of_der (private_at der))
private_in Der set file = of_der (private_at file)
private_in Raw set file = raw_private_at set file

-- a private key of both parts has no raw bytes
abbrev pub CanBe : FileParts → Form → Type 0
CanBe (Seed seed) form = Unit {0}
CanBe (Expanded expanded) form = Unit {0}
CanBe (Both seed expanded) Pem = Unit {0}
CanBe (Both seed expanded) Der = Unit {0}
CanBe (Both seed expanded) Raw = ⊥

-- the seed alone, if there is one
abbrev pub seed_alone : FileParts → Option FileParts
seed_alone (Seed seed) = Some (Seed seed)
seed_alone (Expanded expanded) = None
seed_alone (Both seed expanded) = Some (Seed seed)

-- what is written of a private key whose expanded key is this: its parts, its seed, or the expanded key
abbrev pub parts_as : Parts → FileParts → List ℕ → Option FileParts
parts_as part.Kept parts expanded = Some parts
parts_as part.Seed parts expanded = seed_alone parts
parts_as part.Expanded parts expanded = Some (Expanded expanded)

-- the file has, in this form, what is wanted of a private key; both stand for the same keys
pub record ConvertsPrivate (form : Form) (wanted : Parts) (pair : PairValue) (file : List ℕ) : Type 0 where
  pub pk : PublicParts
  pub sk : PrivateParts
  pub keys : HasKeys (named_set pair.algorithm) pair.parts pk sk
  pub written : FileParts
  pub are : parts_as wanted pair.parts pair.private ≡ Some written
  pub same : HasKeys (named_set pair.algorithm) written pk sk
  pub has : IsPrivateIn form file pair.algorithm written

-- why nothing is written of a private key: its seed is wanted, and it has none; or raw bytes of both parts are; memory may run out of
-- itself
abbrev pub FailsToConvert : Form → Parts → FileParts → CommandFault → Type 0
FailsToConvert form wanted parts NoSeed = (wanted ≡ part.Seed) × (seed_alone parts ≡ None)
FailsToConvert form wanted parts TwoParts = (wanted ≡ part.Kept) × ¬ (CanBe parts form)
FailsToConvert form wanted parts Memory = Unit {0}
FailsToConvert form wanted parts fault = ⊥
