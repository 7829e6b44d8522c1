-- Worked values of packing and of the spelling of hints.
use Rattle.std.proofs.Common.{◌≡◌, [], ◌∷◌, refl, pos, negsuc, arith, length, ℕ, List, ◌++◌, if◌then◌else◌, ◌||◌}
use Rattle.fips204_base.specs.Packing.{bit_length, bits, bits_to_bytes, bits_to_integer, integer_to_bits, polynomial_bytes, unpacked, width}
use Rattle.std.specs.Prelude.{replicate, nat_eq, take}
use Rattle.std.specs.List.{range_with_len}
use Rattle.fips204_base.specs.declared.types.R.{R}
use Rattle.fips204_base.specs.Streams.{counter_block, counter_blocks}
use Rattle.fips204_base.specs.Vectors.{polynomial_of}
use Rattle.fips204_base.specs.Encodings.{is_one, all_ones, hint_bytes, Spells}
use Rattle.fips204_base.proofs.HintSpelling.{pieces, totals_rise, piece_rises, zero_rest}

-- Worked values of the definitions in specs/Packing.antt.

six_in_four_bits : integer_to_bits 4 6 ≡ 0 ∷ 1 ∷ 1 ∷ 0 ∷ []
unfolding integer_to_bits
six_in_four_bits = refl

bits_of_thirteen : bits_to_integer (1 ∷ 0 ∷ 1 ∷ 1 ∷ []) ≡ 13
unfolding bits_to_integer
bits_of_thirteen = refl

two_fields_of_three_bits : bits 3 (4 ∷ 3 ∷ []) ≡ 0 ∷ 0 ∷ 1 ∷ 1 ∷ 1 ∷ 0 ∷ []
unfolding bits integer_to_bits
two_fields_of_three_bits = refl

one_has_one_bit : bit_length 1 ≡ 1
unfolding bit_length
one_has_one_bit = refl

two_has_two_bits : bit_length 2 ≡ 2
unfolding bit_length
two_has_two_bits = refl

bits_below_a_power : bit_length 1023 ≡ 10
unfolding bit_length
bits_below_a_power = refl

bits_of_a_power : bit_length 1024 ≡ 11
unfolding bit_length
bits_of_a_power = refl

bits_below_a_high_power : bit_length 2097151 ≡ 21
unfolding bit_length
bits_below_a_high_power = refl

most_bits_of_a_field : width (pos 1048575) (pos 1048575) ≡ 21
unfolding bit_length
most_bits_of_a_field = refl

bits_of_the_mask : width (pos 131071) (pos 131072) ≡ 18
unfolding bit_length
bits_of_the_mask = refl

-- 1 + 2 * 2^10 + 3 * 2^20 + 4 * 2^30, in five bytes
ten_bits : bits_to_bytes (bits 10 (1 ∷ 2 ∷ 3 ∷ 4 ∷ [])) ≡ 1 ∷ 8 ∷ 48 ∷ 0 ∷ 1 ∷ []
unfolding bits_to_bytes bits_to_integer bits integer_to_bits
ten_bits = refl

-- 0 + 1 * 8 + 2 * 64 + 3 * 512 + 4 * 4096 + 2^18 + 2 * 2^21, in three bytes
three_bits : bits_to_bytes (bits 3 (0 ∷ 1 ∷ 2 ∷ 3 ∷ 4 ∷ 0 ∷ 1 ∷ 2 ∷ [])) ≡ 136 ∷ 70 ∷ 68 ∷ []
unfolding bits_to_bytes bits_to_integer bits integer_to_bits
three_bits = refl

-- 1 + (2^20 - 1) * 2^20, in five bytes
twenty_bits : bits_to_bytes (bits 20 (1 ∷ 1048575 ∷ [])) ≡ 1 ∷ 0 ∷ 240 ∷ 255 ∷ 255 ∷ []
unfolding bits_to_bytes bits_to_integer bits integer_to_bits
twenty_bits = refl

-- fields of three bits: 4 of the least coefficient, 0 of the most, and then 1 to 3
fields_of_ends : polynomial_bytes (pos 2) (pos 2) (negsuc 1 ∷ pos 2 ∷ pos 1 ∷ pos 0 ∷ negsuc 0 ∷ pos 2 ∷ pos 2 ∷ pos 2 ∷ []) ≡ 0x44 ∷ 0x34 ∷ 0 ∷ []
unfolding polynomial_bytes bits_to_bytes bits_to_integer bits integer_to_bits bit_length
fields_of_ends = refl

-- 700 is 0x2BC
simple_field : polynomial_bytes (pos 0) (pos 1023) (pos 700 ∷ pos 0 ∷ pos 0 ∷ pos 0 ∷ []) ≡ 0xBC ∷ 2 ∷ 0 ∷ 0 ∷ 0 ∷ []
unfolding polynomial_bytes bits_to_bytes bits_to_integer bits integer_to_bits bit_length
simple_field = refl

-- a field of 7 is that of a coefficient below the range
coefficient_below_range : take 3 (unpacked 2 2 (0x0F ∷ replicate 95 0)).0 ≡ negsuc 4 ∷ pos 1 ∷ pos 2 ∷ []
unfolding unpacked bits_to_integer bits integer_to_bits bit_length
coefficient_below_range = refl

-- Worked spellings of hints.

-- polynomial 0 has a one at place 5, and polynomial 2 at its first place and its last
example : List R
example = polynomial_of (λ n. if nat_eq n 5 then pos 1 else pos 0) ∷ polynomial_of (λ _. pos 0) ∷ polynomial_of (λ n. if nat_eq n 0 || nat_eq n 255 then pos 1 else pos 0) ∷ polynomial_of (λ _. pos 0) ∷ []

spelling_of_example : hint_bytes 80 example ≡ 0x05 ∷ 0x00 ∷ 0xFF ∷ replicate 77 0 ++ 1 ∷ 1 ∷ 3 ∷ 3 ∷ []
unfolding example polynomial_of is_one all_ones
spelling_of_example = refl

-- ---- bytes that spell no hint

-- in polynomial 2 the place 0 stands after 255
falling_places : (h : List R) → Spells 80 4 h (0x05 ∷ 0xFF ∷ 0x00 ∷ replicate 77 0 ++ 1 ∷ 1 ∷ 3 ∷ 3 ∷ []) → ⊥
falling_places h s =
    let rows : length h ≡ 4 = s.hint.rows in
    let bytes : List ℕ = 0x05 ∷ 0xFF ∷ 0x00 ∷ replicate 77 0 ++ 1 ∷ 1 ∷ 3 ∷ 3 ∷ [] in
    let rise = piece_rises 80 h bytes 2 1 (pieces 80 4 h bytes s) (omega (arith, rows)) (omega arith) (omega arith) in
    omega (arith, rise)

-- a place stands twice
equal_places : (h : List R) → Spells 80 4 h (0x05 ∷ 0x05 ∷ replicate 78 0 ++ 2 ∷ 2 ∷ 2 ∷ 2 ∷ []) → ⊥
equal_places h s =
    let rows : length h ≡ 4 = s.hint.rows in
    let bytes : List ℕ = 0x05 ∷ 0x05 ∷ replicate 78 0 ++ 2 ∷ 2 ∷ 2 ∷ 2 ∷ [] in
    let rise = piece_rises 80 h bytes 0 0 (pieces 80 4 h bytes s) (omega (arith, rows)) (omega arith) (omega arith) in
    omega (arith, rise)

-- a place that no total counts
uncounted_place : (h : List R) → Spells 80 4 h (0x01 ∷ replicate 83 0) → ⊥
uncounted_place h s =
    let rows : length h ≡ 4 = s.hint.rows in
    let bytes : List ℕ = 0x01 ∷ replicate 83 0 in
    let zero = zero_rest 80 h bytes 0 (pieces 80 4 h bytes s) (rw rows (omega arith)) (omega arith) in
    omega (arith, zero)

falling_total : (h : List R) → Spells 80 4 h (0x05 ∷ 0x06 ∷ replicate 78 0 ++ 2 ∷ 1 ∷ 2 ∷ 2 ∷ []) → ⊥
falling_total h s =
    let rows : length h ≡ 4 = s.hint.rows in
    let bytes : List ℕ = 0x05 ∷ 0x06 ∷ replicate 78 0 ++ 2 ∷ 1 ∷ 2 ∷ 2 ∷ [] in
    let rise = totals_rise 80 h bytes 1 (pieces 80 4 h bytes s) (omega (arith, rows)) in
    omega (arith, rise.0)

total_above_omega : (h : List R) → Spells 80 4 h (range_with_len 0 80 ++ 0 ∷ 0 ∷ 0 ∷ 81 ∷ []) → ⊥
total_above_omega h s =
    let rows : length h ≡ 4 = s.hint.rows in
    let bytes : List ℕ = range_with_len 0 80 ++ 0 ∷ 0 ∷ 0 ∷ 81 ∷ [] in
    let rise = totals_rise 80 h bytes 3 (pieces 80 4 h bytes s) (omega (arith, rows)) in
    omega (arith, rise.1)

coefficient_from_zero : take 2 (unpacked 0 1023 (0xBC ∷ 6 ∷ replicate 318 0)).0 ≡ pos 700 ∷ pos 1 ∷ []
unfolding unpacked bits_to_integer bits integer_to_bits bit_length
coefficient_from_zero = refl

block_of_a_stream : counter_block (λ x. x) (7 ∷ []) 258 ≡ 7 ∷ 2 ∷ 1 ∷ 0 ∷ 0 ∷ []
unfolding counter_block
block_of_a_stream = refl

blocks_of_a_stream : counter_blocks (λ x. x) (7 ∷ []) 2 ≡ 7 ∷ 0 ∷ 0 ∷ 0 ∷ 0 ∷ 7 ∷ 1 ∷ 0 ∷ 0 ∷ 0 ∷ []
unfolding counter_blocks counter_block
blocks_of_a_stream = refl

-- a coefficient of a bound a of 1 is packed by its distance from b, too
packed_from_minus_one : polynomial_bytes (pos 1) (pos 1) (pos 1 ∷ pos 0 ∷ negsuc 0 ∷ pos 1 ∷ []) ≡ 36 ∷ []
unfolding bits_to_bytes bits integer_to_bits bits_to_integer polynomial_bytes bit_length
packed_from_minus_one = refl

unpacked_from_minus_one : take 4 (unpacked 1 1 (36 ∷ [])).0 ≡ pos 1 ∷ pos 0 ∷ negsuc 0 ∷ pos 1 ∷ []
unfolding bits integer_to_bits bits_to_integer unpacked bit_length
unpacked_from_minus_one = refl

-- a one behind place 255 is none
one_behind_the_end : all_ones (record { 0 = replicate 256 (pos 0) ++ pos 1 ∷ [] } ∷ []) ≡ []
unfolding all_ones is_one
one_behind_the_end = refl
