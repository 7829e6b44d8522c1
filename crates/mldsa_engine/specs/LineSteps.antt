-- What private functions state of each other on the way to a line: cited by no public clause; nobody has to believe it.
use Rattle.std.specs.Prelude.{⊤, ◌≡◌, ℕ, List, length, ◌<◌, ◌≤◌, ◌-◌, ◌∷◌, ◌++◌, Option, Some, None}
use Rattle.std.specs.Io.KnownBytes.{Consumes, IsAtEnd}
use Rattle.std.specs.List.{position_or_len}
use Rattle.mldsa_engine.specs.Lines.{ends_line, first_line, after_line, line_digits, line_reach, LeavesAllBut}
use Rattle.mldsa_engine.specs.declared.lines.Ending.{Ending}
use Rattle.mldsa_engine.specs.declared.lines.Ending.TheVariants.{Open, Line, Input}

-- no byte of the line is LF
abbrev pub HasNoEnd : List ℕ → Type 0
HasNoEnd line = position_or_len ends_line line ≡ length line

-- a reader gave a piece of a line, and what ended it, by calls that asked for so many bytes at least: where LF was read, bytes
-- past it came with it only as far as one call asked for them
abbrev pub TakesPiece : ℕ → Option (List ℕ) → Option (List ℕ) → List ℕ → Ending → Type 0
TakesPiece asked old new piece Open = Consumes old new piece × HasNoEnd piece × (0 < length piece)
TakesPiece asked old new piece Line = (more : List ℕ) × Consumes old new (piece ++ 10 ∷ more) × HasNoEnd piece
    × (length more ≤ asked - length piece - 1)
TakesPiece asked old new piece Input = Consumes old new piece × HasNoEnd piece × IsAtEnd new

-- a reader gave the line that its bytes begin with, where it tells its bytes, and has left what follows the line's reach; a line
-- with the wanted digits was taken alone
abbrev pub TakesLine : Option ℕ → Option (List ℕ) → Option (List ℕ) → List ℕ → Type 0
TakesLine wanted None left line = ⊤
TakesLine wanted (Some input) None line = ⊥
TakesLine wanted (Some input) (Some left) line = (0 < length input) × (line ≡ first_line input)
    × LeavesAllBut (line_reach wanted line) input left
    × (line_digits wanted ≤ length line → left ≡ after_line input)
