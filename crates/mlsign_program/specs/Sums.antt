-- What a list of sums says of files, and what a call found.
use Rattle.std.specs.Prelude.{◌≡◌, ◌⊎◌, ◌==◌, ◌||◌, ℕ, Bool, List, [], ◌∷◌, ◌++◌, Option, true, codes, encode_utf8_all, flat_map, if◌then◌else◌, length, string_bytes}
use Rattle.std.specs.Borrow.{Bor}
use Rattle.std.specs.List.{All, AllZip, Any, list_any}
use Rattle.std.specs.Io.KnownBytes.{Consumes, IsAtEnd}
use Rattle.clap.specs.declared.parser.matches.ArgMatches.{ArgMatches}
use Rattle.hex.specs.Hex.{encode_lower}
use Rattle.sha2.specs.Sha256.{sha256}
use Rattle.mlsign_engine.specs.Commands.{Judges}
use Rattle.mlsign_program.specs.Outputs.{LacksFlag, context_of}
use Rattle.mlsign_program.specs.declared.sums.Sum.{Sum}
use Rattle.mlsign_program.specs.declared.verify.Ends.{Ends}
use Rattle.mlsign_program.specs.declared.verify.TrustedKey.{TrustedKey}

-- a reader gave these bytes, and has none left, as far as it tells
abbrev pub GaveAll : Option (List ℕ) → Option (List ℕ) → List ℕ → Type 0
GaveAll old new bytes = Consumes old new bytes × IsAtEnd new

-- these digits are the SHA-256 of these bytes, as `sha256sum` writes it
abbrev pub IsSumOf : List ℕ → List ℕ → Type 0
IsSumOf digits bytes = digits ≡ encode_lower (sha256 bytes)

-- there are bytes that have the sum of this line; whoever says so has to show them, and has only those that were read
abbrev pub HasFound : Sum → Type 0
HasFound sum = (bytes : List ℕ) × IsSumOf sum.digits.now bytes

-- a character of a name that is escaped: a backslash, LF or CR
abbrev pub is_escaped : ℕ → Bool
is_escaped c = c == 92 || c == 10 || c == 13

-- a character of a name as `sha256sum` writes it
abbrev pub written : ℕ → List ℕ
written c = if c == 92 then 92 ∷ 92 ∷ [] else if c == 10 then 92 ∷ 110 ∷ [] else if c == 13 then 92 ∷ 114 ∷ [] else c ∷ []

-- a backslash, or nothing
abbrev pub escape_front : Bool → List ℕ
escape_front escaped = if escaped then 92 ∷ [] else []

-- `sha256sum` writes a name so, and says whether it has escapes
abbrev pub IsWritten : Bool → List ℕ → List ℕ → Type 0
IsWritten escaped text name = (characters : List ℕ) × (name ≡ encode_utf8_all characters) × (text ≡ encode_utf8_all (flat_map written characters)) × (escaped ≡ list_any is_escaped characters)

-- `sha256sum` writes this line for these digits and this name: 32 is a blank, and 42 a star
pub record IsLineOf (line digits name : List ℕ) : Type 0 where
  pub escaped : Bool
  pub mode : ℕ
  pub text : List ℕ
  pub is_mode : (mode ≡ 32) ⊎ (mode ≡ 42)
  pub is_name : IsWritten escaped text name
  pub is_long : length digits ≡ 64
  pub is_whole : line ≡ escape_front escaped ++ (digits ++ (32 ∷ mode ∷ text))

-- `sha256sum` writes this line for this sum
abbrev pub IsLineOfSum : List ℕ → Sum → Type 0
IsLineOfSum line sum = IsLineOf line sum.digits.now (string_bytes sum.name)

-- a line with LF at its end
abbrev pub with_end : List ℕ → List ℕ
with_end line = line ++ 10 ∷ []

-- a list is the lines of these sums, each with LF at its end
abbrev pub IsListOf : List ℕ → List Sum → Type 0
IsListOf list sums = (lines : List (List ℕ)) × AllZip IsLineOfSum lines sums × (list ≡ flat_map with_end lines)

-- the line is of the file with this name
abbrev pub Names : List ℕ → Sum → Type 0
Names file sum = string_bytes sum.name ≡ file

-- a list has a line of the file with this name, and for each such line bytes were read that have its sum
abbrev pub IsListed : List Sum → List ℕ → Type 0
IsListed sums file = Any (Names file) sums × All (λ sum. Names file sum → HasFound sum) sums

-- no message was invalid, and none could not be looked at
abbrev pub AreAllGood : Ends → Type 0
AreAllGood ends = (ends.invalid ≡ 0) × (ends.failed ≡ 0)

-- a public key accepts a signature of a list, under the context of a call
abbrev pub AcceptsList : ArgMatches → List ℕ → List ℕ → TrustedKey → Type 0
AcceptsList words signature list key = Judges key.key signature (context_of words) list true

-- what a call has found if it says that files are good: a list has a signature that one of the public keys accepts, under the
-- context of the call; each file that the call names is in the list; and if it names none, and leaves out none, there are bytes
-- for each line of the list
pub record AreFilesGood (words : ArgMatches) (keys : List TrustedKey) (files : List (Bor (List ℕ))) : Type 0 where
  pub signature : List ℕ
  pub list : List ℕ
  pub sums : List Sum
  pub accepted : Any (AcceptsList words signature list) keys
  pub listed : IsListOf list sums
  pub named : All (λ file. IsListed sums file.now) files
  pub every : length files ≡ 0 → LacksFlag words (codes "ignore-missing") → All HasFound sums
