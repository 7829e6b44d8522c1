-- The text of a key as others write it: PEM in the lax form of RFC 7468 (section 3, figure 2), with text around it (section 2).
-- Of that figure VT is not white space here, and the padding of base64 has to be there.
use Rattle.std.specs.Prelude.{ℕ, ◌==◌, Bool, not, List, [], ◌∷◌, ◌++◌, length, take, drop, if◌then◌else◌, codes}
use Rattle.std.specs.Char.{is_ascii_whitespace}
use Rattle.std.specs.List.{position_or_len, filter}
use Rattle.mlsign_engine.specs.Pem.{begin_line, end_line, line_end, wrapped}
use Rattle.mlsign_engine.specs.PemReading.{begins, is_dash}
use Rattle.mlsign_engine.specs.declared.pem.Kind.{Kind}
use Rattle.mlsign_engine.specs.declared.pem.Kind.TheVariants.{Public, Private}
use Rattle.mlsign_engine.specs.declared.pem.LineEnd.TheVariants.{Lf}

-- a text from the first place on where it has these bytes; nothing if it has them nowhere
abbrev pub from_first : List ℕ → List ℕ → List ℕ
from_first front [] = []
from_first front (byte ∷ rest) = if begins front (byte ∷ rest) then byte ∷ rest else from_first front rest

-- the first line of a text begins so
abbrev pub beginning : List ℕ
beginning = codes "-----BEGIN "

-- a text from there on, or all of it
abbrev pub from_beginning : List ℕ → List ℕ
from_beginning text = let begun = from_first beginning text in if length begun == 0 then text else begun

-- a character that is no white space
abbrev pub is_black : ℕ → Bool
is_black byte = not (is_ascii_whitespace byte)

-- the end of a text, from the first dash behind its first line on: the last line, and of what follows it only another text
unfoldable pub strict_closing : Kind → List ℕ → List ℕ
strict_closing kind text =
    if begins (end_line kind) text
    then end_line kind ++ (line_end Lf ++ from_first beginning (drop (length (end_line kind)) text))
    else text

-- a text that begins with the first line of this kind: what stands between the first and the last line loses its white space, and gets
-- lines of 64 characters
unfoldable pub rewrapped : Kind → List ℕ → List ℕ
rewrapped kind text =
    let rest = drop (length (begin_line kind)) text in
    let dash = position_or_len is_dash rest in
    begin_line kind ++ (line_end Lf ++ (wrapped (line_end Lf) (filter is_black (take dash rest)) ++ strict_closing kind (drop dash rest)))

-- the strict form of a text, without what stands before its first line. Where that is none of this kind the text has its fault in the
-- strict form too.
unfoldable pub strict_form : Kind → List ℕ → List ℕ
strict_form kind text =
    let begun = from_first beginning text in
    if begins (begin_line kind) begun then rewrapped kind begun
    else if length begun == 0 then text
    else begun

-- the kind that the first line of a text says, or else public
abbrev pub kind_of_text : List ℕ → Kind
kind_of_text text = if begins (begin_line Private) (from_first beginning text) then Private else Public
