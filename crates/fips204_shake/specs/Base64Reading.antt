-- Reading base64 from left to right, four symbols at a time: the bytes, or the first fault.
use Rattle.std.specs.Prelude.{ℕ, ◌+◌, ◌-◌, ◌*◌, ◌/◌, ◌%◌, ◌==◌, ◌&&◌, Bool, not, List, [], ◌∷◌, ◌++◌, length, Result, Ok, Err, nat_lt, if◌then◌else◌}
use Rattle.std.specs.Char.{is_ascii_whitespace}
use Rattle.std.specs.List.{position_or_len}
use Rattle.fips204_shake.specs.Base64.{alphabet, pad}
use Rattle.fips204_shake.specs.declared.pem.fault.PemFault.{PemFault}
use Rattle.fips204_shake.specs.declared.pem.fault.PemFault.TheVariants.{Damaged, TooLong}
use Rattle.fips204_shake.specs.Reading.{◌>>=◌}

-- a character that is no white space
abbrev pub is_black : ℕ → Bool
is_black byte = not (is_ascii_whitespace byte)

-- the number of a symbol, or 64
unfoldable pub value_of : ℕ → ℕ
value_of byte = position_or_len (λ symbol. symbol == byte) alphabet

-- the bytes of these numbers of six bits: where fewer than three bytes are wanted the bits behind the last one are to be zero
abbrev pub three_bytes : ℕ → ℕ → ℕ → ℕ → Result (List ℕ) PemFault
three_bytes p q r s =
    if nat_lt p 64 && nat_lt q 64 && nat_lt r 64 && nat_lt s 64
    then Ok ((4 * p + q / 16) ∷ (16 * (q % 16) + r / 4) ∷ (64 * (r % 4) + s) ∷ []) else Err Damaged

abbrev pub two_bytes : ℕ → ℕ → ℕ → Result (List ℕ) PemFault
two_bytes p q r =
    if nat_lt p 64 && nat_lt q 64 && nat_lt r 64 && r % 4 == 0
    then Ok ((4 * p + q / 16) ∷ (16 * (q % 16) + r / 4) ∷ []) else Err Damaged

abbrev pub one_byte : ℕ → ℕ → Result (List ℕ) PemFault
one_byte p q =
    if nat_lt p 64 && nat_lt q 64 && q % 16 == 0
    then Ok ((4 * p + q / 16) ∷ []) else Err Damaged

-- the bytes of four symbols
unfoldable pub group_at : ℕ → ℕ → ℕ → ℕ → Result (List ℕ) PemFault
group_at a b c d =
    if d == pad
    then if c == pad then one_byte (value_of a) (value_of b)
    else two_bytes (value_of a) (value_of b) (value_of c)
    else three_bytes (value_of a) (value_of b) (value_of c) (value_of d)

-- the bytes of four symbols, where others follow only three bytes, and where there is room for them
abbrev pub fitting_at : ℕ → Bool → List ℕ → Result (List ℕ) PemFault
fitting_at room followed group =
    if nat_lt (length group) 3 && followed then Err Damaged
    else if nat_lt room (length group) then Err TooLong
    else Ok group

-- the bytes of symbols, where there is room for that many
unfoldable pub symbols_at : ℕ → List ℕ → Result (List ℕ) PemFault
symbols_at room [] = Ok []
symbols_at room (a ∷ []) = Err Damaged
symbols_at room (a ∷ b ∷ []) = Err Damaged
symbols_at room (a ∷ b ∷ c ∷ []) = Err Damaged
symbols_at room (a ∷ b ∷ c ∷ d ∷ rest) = do
  group ← group_at a b c d
  fitting ← fitting_at room (not (length rest == 0)) group
  others ← symbols_at (room - length group) rest
  Ok (group ++ others)
