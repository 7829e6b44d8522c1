-- Bits, fields and bytes (FIPS 204, Algorithms 9 to 13 and 16 to 19).
use Rattle.std.specs.Prelude.{◌*◌, ◌/◌, ◌%◌, ◌+◌, ◌^◌, ℕ, zero, suc, List, [], ◌∷◌, ℤ, pos, ◌+ℤ◌, ◌-ℤ◌, nat_abs, length, map, take, drop, count_by, nat_le, if◌then◌else◌, int_lt}
use Rattle.std.specs.List.{flat_map, range_with_len}
use Rattle.fips204_base.specs.Streams.{Bytes}
use Rattle.fips204_base.specs.declared.types.R.{R}

-- IntegerToBits (Algorithm 9): the w binary digits of a number, lowest first
unfoldable pub integer_to_bits : ℕ → ℕ → List ℕ
integer_to_bits zero x = []
integer_to_bits (suc w) x = (x % 2) ∷ integer_to_bits w (x / 2)

-- BitsToInteger (Algorithm 10): the number with these binary digits, lowest first
unfoldable pub bits_to_integer : List ℕ → ℕ
bits_to_integer [] = 0
bits_to_integer (bit ∷ higher) = bit + 2 * bits_to_integer higher

-- all bits of numbers of w bits each, lowest first; at w = 8 BytesToBits (Algorithm 13)
unfoldable pub bits : ℕ → List ℕ → List ℕ
bits w numbers = flat_map (integer_to_bits w) numbers

-- BitsToBytes (Algorithm 12): the bits cut in eights; every list here has a whole number of eights
unfoldable pub bits_to_bytes : List ℕ → Bytes
bits_to_bytes all = map (λ i. bits_to_integer (take 8 (drop (8 * i) all))) (range_with_len 0 (length all / 8))

-- bitlen: how many binary digits a number below 2^32 has, which is how many powers of two are at most the number
unfoldable pub bit_length : ℕ → ℕ
bit_length n = count_by (λ k. nat_le (2 ^ k) n) (range_with_len 0 32)

-- how many bits the field of a coefficient from -a to b has (Algorithms 16 and 17)
abbrev pub width : ℤ → ℤ → ℕ
width a b = bit_length (nat_abs (a +ℤ b))

-- SimpleBitPack and BitPack (Algorithms 16 and 17): the bytes of a polynomial with coefficients from -a to b; the field of a coefficient
-- is its distance from b, but where a is 0 the coefficient itself
unfoldable pub polynomial_bytes : ℤ → ℤ → List ℤ → Bytes
polynomial_bytes a b w =
    let field = λ (x : ℤ). if int_lt (pos 0) a then nat_abs (b -ℤ x) else nat_abs x in
    bits_to_bytes (bits (bit_length (nat_abs (a +ℤ b))) (map field w))

-- SimpleBitUnpack and BitUnpack (Algorithms 18 and 19): the polynomial that bytes hold; field n stands in bits c n to c n + c - 1
unfoldable pub unpacked : ℕ → ℕ → Bytes → R
unpacked a b bytes =
    let c = bit_length (a + b) in
    let all = bits 8 bytes in
    let field = λ (n : ℕ). pos (bits_to_integer (take c (drop (c * n) all))) in
    record { 0 = map (λ n. if int_lt (pos 0) (pos a) then pos b -ℤ field n else field n) (range_with_len 0 256) }
