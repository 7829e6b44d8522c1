-- The text of a key: PEM (RFC 7468). It is read in the lax form (section 3, figure 2) with text around it (section 2), but that VT is no
-- white space and base64 has to have its padding. It is written in the strict form (figure 3).
use Rattle.std.specs.Prelude.{◌≡◌, ℕ, zero, suc, ◌+◌, ◌/◌, ◌<◌, Bool, false, List, [], ◌∷◌, ◌++◌, length, take, drop, codes}
use Rattle.std.specs.Str.{bytes_eq}
use Rattle.std.specs.List.{filter}
use Rattle.fips204_shake.specs.Base64.{base64, base64_length, IsBytes}
use Rattle.fips204_shake.specs.Base64Reading.{is_black}
use Rattle.fips204_shake.specs.declared.pem.Kind.{Kind}
use Rattle.fips204_shake.specs.declared.pem.Kind.TheVariants.{Public, Private}

abbrev pub label : Kind → List ℕ
label Public = codes "PUBLIC KEY"
label Private = codes "PRIVATE KEY"

abbrev pub begin_line : Kind → List ℕ
begin_line kind = codes "-----BEGIN " ++ (label kind ++ codes "-----")

abbrev pub end_line : Kind → List ℕ
end_line kind = codes "-----END " ++ (label kind ++ codes "-----")

-- the text begins with these bytes
abbrev pub begins : List ℕ → List ℕ → Bool
begins front text = bytes_eq front (take (length front) text)

-- the first line of a text begins so
abbrev pub beginning : List ℕ
beginning = codes "-----BEGIN "

-- no first line begins at the first places of a text
abbrev pub NoneBegins : ℕ → List ℕ → Type 0
NoneBegins places text = (k : ℕ) → k < places → begins beginning (drop k text) ≡ false

-- the text spells these bytes: between its first line, before which none begins, and its last line, behind which none begins
pub record Spells (text : List ℕ) (kind : Kind) (bytes : List ℕ) : Type 0 where
  pub before : List ℕ
  pub body : List ℕ
  pub after : List ℕ
  pub is : text ≡ before ++ (begin_line kind ++ (body ++ (end_line kind ++ after)))
  pub first : NoneBegins (length before) text
  pub symbols : filter is_black body ≡ base64 bytes
  pub alone : NoneBegins (length after) after
  pub in_range : IsBytes bytes

-- so many lines of symbols, each of 64 but the last, and each with LF
unfoldable pub lines : ℕ → List ℕ → List ℕ
lines zero symbols = []
lines (suc count) symbols = take 64 symbols ++ 10 ∷ lines count (drop 64 symbols)

-- as many as the symbols fill or begin
unfoldable pub wrapped : List ℕ → List ℕ
wrapped symbols = lines ((length symbols + 63) / 64) symbols

-- the text that is written for these bytes
unfoldable pub pem : Kind → List ℕ → List ℕ
pem kind bytes = begin_line kind ++ (10 ∷ (wrapped (base64 bytes) ++ (end_line kind ++ 10 ∷ [])))

-- how many characters the lines of so many bytes have, and the whole text
abbrev pub lines_length : ℕ → ℕ
lines_length count = base64_length count + (base64_length count + 63) / 64

abbrev pub pem_length : Kind → ℕ → ℕ
pem_length kind count = length (begin_line kind) + 1 + lines_length count + length (end_line kind) + 1
