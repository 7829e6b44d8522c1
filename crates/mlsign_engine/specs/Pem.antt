-- The text of a file: PEM, in the strict form of RFC 7468 (section 3, figure 3), whose lines are all of 64 characters but for the last.
use Rattle.std.specs.Prelude.{◌≡◌, ℕ, zero, suc, ◌+◌, ◌/◌, List, [], ◌∷◌, ◌++◌, length, take, drop, codes}
use Rattle.base64.specs.GeneralPurpose.{encode_of, IsBytes}
use Rattle.base64.specs.Engines.{standard}
use Rattle.mlsign_engine.specs.declared.pem.Kind.{Kind}
use Rattle.mlsign_engine.specs.declared.pem.Kind.TheVariants.{Public, Private}
use Rattle.mlsign_engine.specs.declared.pem.LineEnd.{LineEnd}
use Rattle.mlsign_engine.specs.declared.pem.LineEnd.TheVariants.{Lf, CrLf}

abbrev pub label : Kind → List ℕ
label Public = codes "PUBLIC KEY"
label Private = codes "PRIVATE KEY"

abbrev pub begin_line : Kind → List ℕ
begin_line kind = codes "-----BEGIN " ++ (label kind ++ codes "-----")

abbrev pub end_line : Kind → List ℕ
end_line kind = codes "-----END " ++ (label kind ++ codes "-----")

-- LF, or CR and LF
abbrev pub line_end : LineEnd → List ℕ
line_end Lf = 10 ∷ []
line_end CrLf = 13 ∷ 10 ∷ []

-- so many lines of a text, each with its end
unfoldable pub lines : List ℕ → ℕ → List ℕ → List ℕ
lines ending zero text = []
lines ending (suc count) text = take 64 text ++ (ending ++ lines ending count (drop 64 text))

-- as many as the text fills or begins
unfoldable pub wrapped : List ℕ → List ℕ → List ℕ
wrapped ending text = lines ending ((length text + 63) / 64) text

-- the last line, with its end
abbrev pub closing : Kind → LineEnd → List ℕ
closing kind ending = end_line kind ++ line_end ending

-- the text that spells these bytes
unfoldable pub pem : Kind → LineEnd → List ℕ → List ℕ
pem kind ending der =
    begin_line kind ++ (line_end ending ++ (wrapped (line_end ending) (encode_of standard der) ++ closing kind ending))

-- the text spells these bytes, with line ends of one kind throughout
pub record IsPem (text : List ℕ) (kind : Kind) (der : List ℕ) : Type 0 where
  pub ending : LineEnd
  pub bytes : IsBytes der
  pub is : text ≡ pem kind ending der
