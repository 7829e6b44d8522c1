-- The lines of an input, and the bytes that they spell in hex.
use Rattle.std.specs.Prelude.{◌≡◌, ◌≤◌, ℕ, zero, suc, ◌+◌, ◌*◌, min, max, drop, MatchResult, ◌==◌, Bool, if◌then◌else◌, nat_lt, List, [], ◌∷◌, length, Option, Some, None, Result, Ok, Err, ⊤}
use Rattle.std.specs.List.{before_first, after_first}
use Rattle.hex.specs.Hex.{decode_of}
use Rattle.hex.specs.declared.error.FromHexError.{FromHexError}
use Rattle.hex.specs.declared.error.FromHexError.TheVariants.{InvalidHexCharacter, InvalidStringLength, OddLength, OutOfMemory}
use Rattle.mldsa_engine.specs.Devices.{MarkedDevice}
use Rattle.mldsa_engine.specs.declared.fault.RunFault.{RunFault}
use Rattle.mldsa_engine.specs.declared.fault.RunFault.TheVariants.{Usage, Missing, TooLong, NotHex, Length, Read, Write, Memory}

-- the byte that ends a line: LF
abbrev pub ends_line : ℕ → Bool
ends_line byte = byte == 10

-- the line that an input begins with: what stands before its first LF, or all of it where it has none
abbrev pub first_line : List ℕ → List ℕ
first_line input = before_first ends_line input

-- what follows that line and its LF
abbrev pub after_line : List ℕ → List ℕ
after_line input = after_first ends_line input

-- what follows the first so many lines
abbrev pub after_lines : ℕ → List ℕ → List ℕ
after_lines zero input = input
after_lines (suc count) input = after_lines count (after_line input)

-- the most characters that a line may have
abbrev pub longest_line : ℕ
longest_line = 2097152

-- the bytes of a line, of which a number may be wanted, or the line's fault
abbrev pub sized : ℕ → Option ℕ → List ℕ → Result (List ℕ) RunFault
sized number None bytes = Ok bytes
sized number (Some wants) bytes = if length bytes == wants then Ok bytes else Err (Length number wants (length bytes))

-- what decoding a line's characters gives, as its bytes or its fault
abbrev pub decoded : ℕ → Option ℕ → Result (List ℕ) FromHexError → Result (List ℕ) RunFault
decoded number wanted (Ok bytes) = sized number wanted bytes
decoded number wanted (Err _) = Err (NotHex number)

-- the characters of a line as its bytes, or its first fault in the order too long, not hex, another length
unfoldable pub judged : ℕ → Option ℕ → List ℕ → Result (List ℕ) RunFault
judged number wanted line = if nat_lt longest_line (length line) then Err (TooLong number) else decoded number wanted (decode_of line)

-- the bytes of the line that an input begins with, or its fault; an input that has ended has no line
abbrev pub line_bytes : ℕ → Option ℕ → List ℕ → Result (List ℕ) RunFault
line_bytes number wanted [] = Err (Missing number)
line_bytes number wanted (byte ∷ later) = judged number wanted (first_line (byte ∷ later))

-- a line's bytes before those of later lines, or the first fault of them all
abbrev pub before_lines : Result (List ℕ) RunFault → Result (List (List ℕ)) RunFault → Result (List (List ℕ)) RunFault
before_lines (Err fault) later = Err fault
before_lines (Ok bytes) (Err fault) = Err fault
before_lines (Ok bytes) (Ok lines) = Ok (bytes ∷ lines)

-- the bytes of the wanted lines, the first of which has this number, or the first fault among them
abbrev pub lines_bytes : ℕ → List (Option ℕ) → List ℕ → Result (List (List ℕ)) RunFault
lines_bytes number [] input = Ok []
lines_bytes number (wanted ∷ later) input =
    before_lines (line_bytes number wanted input) (lines_bytes (number + 1) later (after_line input))

-- the fault is one of a line
abbrev pub IsLineFault : RunFault → Type 0
IsLineFault Usage = ⊥
IsLineFault (Missing _) = ⊤
IsLineFault (TooLong _) = ⊤
IsLineFault (NotHex _) = ⊤
IsLineFault (Length _ _ _) = ⊤
IsLineFault Read = ⊥
IsLineFault Write = ⊥
IsLineFault Memory = ⊥

-- the digits that a line of the wanted bytes has
abbrev pub line_digits : Option ℕ → ℕ
line_digits None = 0
line_digits (Some wants) = 2 * wants

-- the most characters that are taken before a line is judged: its own or the wanted digits, whichever are more, but no more than a
-- line may have, and one beyond them
abbrev pub line_reach : Option ℕ → List ℕ → ℕ
line_reach wanted line = min (max (length line) (line_digits wanted)) longest_line + 1

-- at most so many characters were taken of an input, and this is left
abbrev pub LeavesAllBut : ℕ → List ℕ → List ℕ → Type 0
LeavesAllBut most input left = (taken : ℕ) × (taken ≤ most) × (left ≡ drop taken input)

-- a reader gave the wanted lines, the first of which has this number, which spell these bytes, and has left what follows them,
-- where it tells its bytes
abbrev pub TakesLines : ℕ → List (Option ℕ) → Option (List ℕ) → Option (List ℕ) → List (List ℕ) → Type 0
TakesLines number wanted None left lines = ⊤
TakesLines number wanted (Some input) None lines = ⊥
TakesLines number wanted (Some input) (Some left) lines =
    (lines_bytes number wanted input ≡ Ok lines) × (left ≡ after_lines (length wanted) input)

-- the fault is the first among the wanted lines, the first of which has this number, where the reader tells its bytes
abbrev pub FaultOfLines : ℕ → List (Option ℕ) → Option (List ℕ) → RunFault → Type 0
FaultOfLines number wanted None fault = ⊤
FaultOfLines number wanted (Some input) fault = lines_bytes number wanted input ≡ Err fault

-- each line was judged before the next was read: the wanted lines, the first of which has this number, have a fault, and of what
-- follows the reach of the first line at fault nothing was taken
abbrev pub StopsInTurn : ℕ → List (Option ℕ) → List ℕ → List ℕ → Type 0
StopsInTurn number [] input left = ⊥
StopsInTurn number (wanted ∷ later) input left =
    MatchResult (line_bytes number wanted input)
    (λ _. StopsInTurn (number + 1) later (after_line input) left)
    (λ _. LeavesAllBut (line_reach wanted (first_line input)) input left)

-- the same where the reader tells its bytes
abbrev pub InTurn : ℕ → List (Option ℕ) → Option (List ℕ) → Option (List ℕ) → Type 0
InTurn number wanted None left = ⊤
InTurn number wanted (Some input) None = ⊥
InTurn number wanted (Some input) (Some left) = StopsInTurn number wanted input left

-- a reader was stopped by a fault: one of a line is the first among the wanted lines, the first of which has this number, and each
-- line was judged before the next was read
abbrev pub Stops : ℕ → List (Option ℕ) → Option (List ℕ) → Option (List ℕ) → RunFault → Type 0
Stops number wanted given left fault = IsLineFault fault → FaultOfLines number wanted given fault × InTurn number wanted given left

-- the same of a marked reader
abbrev pub StopsAt : {D : Type 0} → (D → Option (List ℕ)) → MarkedDevice D → MarkedDevice D → ℕ → List (Option ℕ) → RunFault → Type 0
StopsAt remaining before after number wanted fault = Stops number wanted (remaining before.device) (remaining after.device) fault

-- the fault of a line that could not be decoded
abbrev pub refused : ℕ → FromHexError → RunFault
refused number (InvalidHexCharacter _ _) = NotHex number
refused number InvalidStringLength = NotHex number
refused number OddLength = NotHex number
refused number OutOfMemory = Memory

-- the fault is one that reading an input may end with
abbrev pub IsInputFault : RunFault → Type 0
IsInputFault Usage = ⊥
IsInputFault (Missing _) = ⊤
IsInputFault (TooLong _) = ⊤
IsInputFault (NotHex _) = ⊤
IsInputFault (Length _ _ _) = ⊤
IsInputFault Read = ⊤
IsInputFault Write = ⊥
IsInputFault Memory = ⊤

-- the bytes are as many as are wanted
abbrev pub Fits : Option ℕ → List ℕ → Type 0
Fits None bytes = ⊤
Fits (Some wants) bytes = length bytes ≡ wants

-- each line has as many bytes as are wanted of it
abbrev pub AllFit : List (Option ℕ) → List (List ℕ) → Type 0
AllFit [] [] = ⊤
AllFit [] (line ∷ lines) = ⊥
AllFit (wanted ∷ later) [] = ⊥
AllFit (wanted ∷ later) (line ∷ lines) = Fits wanted line × AllFit later lines
