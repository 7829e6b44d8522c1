-- Reading the text of a file: the bytes that it spells, or the first fault.
use Rattle.std.specs.Prelude.{◌≡◌, ℕ, ◌==◌, Bool, not, ◌||◌, List, length, take, drop, Result, Ok, Err, if◌then◌else◌, codes}
use Rattle.std.specs.Str.{bytes_eq}
use Rattle.std.specs.List.{position_or_len, filter}
use Rattle.base64.specs.GeneralPurpose.{decode_of}
use Rattle.base64.specs.Engines.{standard}
use Rattle.base64.specs.declared.decode.DecodeError.{DecodeError}
use Rattle.mlsign_engine.specs.declared.fault.FileFault.{FileFault}
use Rattle.mlsign_engine.specs.declared.fault.FileFault.TheVariants.{NotPem, OtherKind, CutShort, Trailing, Text, Memory}
use Rattle.mlsign_engine.specs.declared.pem.Kind.{Kind}
use Rattle.mlsign_engine.specs.declared.pem.LineEnd.{LineEnd}
use Rattle.mlsign_engine.specs.declared.pem.LineEnd.TheVariants.{Lf, CrLf}
use Rattle.mlsign_engine.specs.Pem.{begin_line, line_end, closing, wrapped}
use Rattle.fips204_shake.specs.Reading.{◌>>=◌}

-- what a function returned, seen by view, is what reading gives, unless memory ran out
abbrev pub FailsLike : {Y : Type 0} → FileFault → Result Y FileFault → Type 0
FailsLike Memory read = Unit {0}
FailsLike fault read = read ≡ Err fault

abbrev pub GivesOrFails : {X Y : Type 0} → (X → Y) → Result X FileFault → Result Y FileFault → Type 0
GivesOrFails view (Ok x) read = read ≡ Ok (view x)
GivesOrFails view (Err fault) read = FailsLike fault read

-- the text begins with these bytes
abbrev pub begins : List ℕ → List ℕ → Bool
begins front text = bytes_eq front (take (length front) text)

-- the end of the first line, and the text after it
abbrev pub ended_at : List ℕ → Result (LineEnd × List ℕ) FileFault
ended_at rest =
    if begins (line_end Lf) rest then Ok (Lf, drop 1 rest)
    else if begins (line_end CrLf) rest then Ok (CrLf, drop 2 rest)
    else if begins rest (line_end CrLf) then Err CutShort
    else Err Text

-- the same after the wanted first line
unfoldable pub opened_at : Kind → List ℕ → Result (LineEnd × List ℕ) FileFault
opened_at kind text =
    if begins (begin_line kind) text then ended_at (drop (length (begin_line kind)) text)
    else if begins text (begin_line kind) then Err CutShort
    else if begins (codes "-----BEGIN ") text then Err OtherKind
    else Err NotPem

-- a dash
abbrev pub is_dash : ℕ → Bool
is_dash byte = byte == 45

-- the text before the last line, which begins with the first dash
unfoldable pub closed_at : List ℕ → List ℕ → Result (List ℕ) FileFault
closed_at last text =
    let dash = position_or_len is_dash text in
    if bytes_eq (drop dash text) last then Ok (take dash text)
    else if begins (drop dash text) last then Err CutShort
    else if begins last (drop dash text) then Err Trailing
    else Err Text

-- a character that is no line end
abbrev pub is_in_line : ℕ → Bool
is_in_line byte = not (byte == 10 || byte == 13)

-- the characters of lines
unfoldable pub unwrapped_at : List ℕ → List ℕ → Result (List ℕ) FileFault
unwrapped_at ending text =
    if bytes_eq (wrapped ending (filter is_in_line text)) text then Ok (filter is_in_line text) else Err Text

abbrev pub decoded_as : Result (List ℕ) DecodeError → Result (List ℕ) FileFault
decoded_as (Ok bytes) = Ok bytes
decoded_as (Err _) = Err Text

-- the bytes that the text spells
unfoldable pub pem_at : Kind → List ℕ → Result (List ℕ) FileFault
pem_at kind text = do
  opened ← opened_at kind text
  body ← closed_at (closing kind opened.0) opened.1
  symbols ← unwrapped_at (line_end opened.0) body
  decoded_as (decode_of standard symbols)
