-- What the words of a call ask for, and what is written where.
use Rattle.std.specs.Prelude.{◌≡◌, ℕ, List, [], length, Bool, Some, None, codes, unwrap_or, Result, Ok, Err, if◌then◌else◌}
use Rattle.clap.specs.Matches.{found_of, first_value, one_text}
use Rattle.clap.specs.declared.parser.matches.ArgMatches.{ArgMatches}
use Rattle.fips204.specs.ParameterSets.{signature_length}
use Rattle.fips204.specs.Sets.{named_set}
use Rattle.mlsign_engine.specs.Commands.{MakesTexts}
use Rattle.mlsign_engine.specs.Forms.{IsPrivateIn, IsPublicIn}
use Rattle.fips204_shake.specs.Keys.{FileParts}
use Rattle.fips204.specs.declared.sets.SetName.{SetName}
use Rattle.fips204.specs.declared.sets.SetName.TheVariants.{MlDsa44, MlDsa65, MlDsa87}
use Rattle.mlsign_engine.specs.declared.forms.Form.{Form}
use Rattle.mlsign_engine.specs.declared.forms.Form.TheVariants.{Pem, Der, Raw}
use Rattle.mlsign_engine.specs.declared.forms.Parts.{Parts}
use Rattle.mlsign_engine.specs.declared.forms.Parts.TheVariants as part
use Rattle.mlsign_program.specs.declared.places.Content.{Content}
use Rattle.mlsign_program.specs.declared.places.Content.TheVariants.{PrivateKey, PublicKey, Signature}

-- a call has this word under this name
abbrev pub HasWord : ArgMatches → List ℕ → List ℕ → Type 0
HasWord words name text = first_value (found_of words) name ≡ Some text

-- a call has a flag
abbrev pub HasFlag : ArgMatches → List ℕ → Type 0
HasFlag words name = one_text (found_of words) name ≡ Some (codes "true")

-- a call has no such flag
abbrev pub LacksFlag : ArgMatches → List ℕ → Type 0
LacksFlag words name = one_text (found_of words) name ≡ Some (codes "false")

-- the context of a call, by default empty
abbrev pub context_of : ArgMatches → List ℕ
context_of words = unwrap_or (first_value (found_of words) (codes "context")) []

-- the word for a parameter set
abbrev pub set_word : SetName → List ℕ
set_word MlDsa44 = codes "44"
set_word MlDsa65 = codes "65"
set_word MlDsa87 = codes "87"

-- the word for a form
abbrev pub form_word : Form → List ℕ
form_word Pem = codes "pem"
form_word Der = codes "der"
form_word Raw = codes "raw"

-- a call wants these parts of a private key
abbrev pub IsPartsWord : ArgMatches → Parts → Type 0
IsPartsWord words part.Kept = first_value (found_of words) (codes "parts") ≡ None
IsPartsWord words part.Seed = HasWord words (codes "parts") (codes "seed")
IsPartsWord words part.Expanded = HasWord words (codes "parts") (codes "expanded")

-- these are the files of the keys of a seed at the parameter set that a call says, in DER with its flag, and in PEM
-- without
pub record GeneratesAt (words : ArgMatches) (seed private public : List ℕ) : Type 0 where
  pub form : Form
  pub algorithm : SetName
  pub der : HasFlag words (codes "der") → form ≡ Der
  pub pem : LacksFlag words (codes "der") → form ≡ Pem
  pub set : HasWord words (codes "set") (set_word algorithm)
  pub keys : MakesTexts form algorithm seed private public

-- a file may have these bytes, by what it is to have: a key in one of the forms, or a signature
abbrev pub Holds : Content → List ℕ → Type 0
Holds PrivateKey file = (form : Form) × (algorithm : SetName) × (parts : FileParts) × IsPrivateIn form file algorithm parts
Holds PublicKey file = (form : Form) × (algorithm : SetName) × (bytes : List ℕ) × IsPublicIn form file algorithm bytes
Holds Signature bytes = (algorithm : SetName) × (length bytes ≡ signature_length (named_set algorithm))

-- the exit status of a result: 0 for what was done, 1 for an invalid signature, 2 for an error
abbrev pub status_of : {E : Type 0} → Result Bool E → ℕ
status_of (Ok valid) = if valid then 0 else 1
status_of (Err _) = 2
