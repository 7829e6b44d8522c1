-- Base64 (RFC 4648, section 4): the bits of bytes, highest first, six in a symbol.
use Rattle.std.specs.Prelude.{◌≡◌, ℕ, zero, suc, ◌+◌, ◌-◌, ◌*◌, ◌/◌, ◌%◌, ◌^◌, ◌<◌, List, [], ◌∷◌, ◌++◌, map, length, replicate, slice_index, codes, refl}
use Rattle.std.specs.List.{flat_map}

-- the symbol of each number below 64 (table 1)
unfoldable pub alphabet : List ℕ
alphabet = codes "ABCDEFGHIJKLMNOPQRSTUVWXYZabcdefghijklmnopqrstuvwxyz0123456789+/"

unfoldable pub symbol : ℕ → ℕ
symbol value = slice_index alphabet value

-- the last w bits of a number, highest first
unfoldable pub bits_of : ℕ → ℕ → List ℕ
bits_of zero x = []
bits_of (suc w) x = x / 2 ^ w % 2 ∷ bits_of w x

-- all bits of bytes
unfoldable pub bits : List ℕ → List ℕ
bits bytes = flat_map (bits_of 8) bytes

-- the number that six bits spell
abbrev pub six : ℕ → ℕ → ℕ → ℕ → ℕ → ℕ → ℕ
six a b c d e f = 32 * a + 16 * b + 8 * c + 4 * d + 2 * e + f

-- the numbers that bits spell, six in each, with zero bits behind the last ones
unfoldable pub sixes : List ℕ → List ℕ
sixes [] = []
sixes (a ∷ []) = six a 0 0 0 0 0 ∷ []
sixes (a ∷ b ∷ []) = six a b 0 0 0 0 ∷ []
sixes (a ∷ b ∷ c ∷ []) = six a b c 0 0 0 ∷ []
sixes (a ∷ b ∷ c ∷ d ∷ []) = six a b c d 0 0 ∷ []
sixes (a ∷ b ∷ c ∷ d ∷ e ∷ []) = six a b c d e 0 ∷ []
sixes (a ∷ b ∷ c ∷ d ∷ e ∷ f ∷ rest) = six a b c d e f ∷ sixes rest

-- the sign =
abbrev pub pad : ℕ
pad = 61

-- the symbols of bytes, and as many signs = as make them fours
unfoldable pub base64 : List ℕ → List ℕ
base64 bytes = map symbol (sixes (bits bytes)) ++ replicate ((3 - length bytes % 3) % 3) pad

-- how many characters that many bytes have
abbrev pub base64_length : ℕ → ℕ
base64_length count = 4 * ((count + 2) / 3)

abbrev pub IsBytes : List ℕ → Type 0
IsBytes bytes = (k : ℕ) → slice_index bytes k < 256

-- the test vectors of section 10, and others

none : base64 (codes "") ≡ codes ""
unfolding base64 symbol alphabet bits bits_of sixes
none = refl

one : base64 (codes "f") ≡ codes "Zg=="
unfolding base64 symbol alphabet bits bits_of sixes
one = refl

two : base64 (codes "fo") ≡ codes "Zm8="
unfolding base64 symbol alphabet bits bits_of sixes
two = refl

three : base64 (codes "foo") ≡ codes "Zm9v"
unfolding base64 symbol alphabet bits bits_of sixes
three = refl

four : base64 (codes "foob") ≡ codes "Zm9vYg=="
unfolding base64 symbol alphabet bits bits_of sixes
four = refl

five : base64 (codes "fooba") ≡ codes "Zm9vYmE="
unfolding base64 symbol alphabet bits bits_of sixes
five = refl

whole : base64 (codes "foobar") ≡ codes "Zm9vYmFy"
unfolding base64 symbol alphabet bits bits_of sixes
whole = refl

ones : base64 (255 ∷ 255 ∷ 255 ∷ []) ≡ codes "////"
unfolding base64 symbol alphabet bits bits_of sixes
ones = refl

ones_and_zeros : base64 (251 ∷ 240 ∷ []) ≡ codes "+/A="
unfolding base64 symbol alphabet bits bits_of sixes
ones_and_zeros = refl

zeros : base64 (0 ∷ []) ≡ codes "AA=="
unfolding base64 symbol alphabet bits bits_of sixes
zeros = refl

three_letters : base64 (codes "Man") ≡ codes "TWFu"
unfolding base64 symbol alphabet bits bits_of sixes
three_letters = refl

-- each symbol once
each_symbol : base64 (0 ∷ 16 ∷ 131 ∷ 16 ∷ 81 ∷ 135 ∷ 32 ∷ 146 ∷ 139 ∷ 48 ∷ 211 ∷ 143 ∷ 65 ∷ 20 ∷ 147 ∷ 81 ∷ 85 ∷ 151 ∷ 97 ∷ 150 ∷ 155 ∷ 113 ∷ 215 ∷ 159 ∷ 130 ∷ 24 ∷ 163 ∷ 146 ∷ 89 ∷ 167 ∷ 162 ∷ 154 ∷ 171 ∷ 178 ∷ 219 ∷ 175 ∷ 195 ∷ 28 ∷ 179 ∷ 211 ∷ 93 ∷ 183 ∷ 227 ∷ 158 ∷ 187 ∷ 243 ∷ 223 ∷ 191 ∷ []) ≡ alphabet
unfolding base64 symbol alphabet bits bits_of sixes
each_symbol = refl
