-- Worked values of the samplers.
use Rattle.std.proofs.Common.{◌≡◌, ℤ, List, [], ◌∷◌, ◌++◌, pos, negsuc, refl, Some, None}
use Rattle.std.specs.Prelude.{◌+◌, ◌-◌, ◌*◌, replicate, flat_map, option_map, map, get_or, take, drop, length}
use Rattle.std.specs.Int.{w16, to_le_bytes}
use Rattle.std.specs.List.{range_with_len}
use Rattle.fips204_base.specs.Packing.{bits, integer_to_bits, bits_to_integer, bit_length, unpacked}
use Rattle.fips204_base.specs.Vectors.{polynomial_of}
use Rattle.fips204_base.specs.Sampling.{coefficient_from_three_bytes, coefficient_from_half_byte, first_256, all_present, matrix_entry, sampled_matrix, small_polynomial, small_vectors, mask, picks, moved, places, signed_sum, challenge}

three_bytes_examples : (coefficient_from_three_bytes 0x12 0x34 0x56 ∷ coefficient_from_three_bytes 0x12 0x34 0x80 ∷ coefficient_from_three_bytes 0x01 0xE0 0x80 ∷ coefficient_from_three_bytes 0x01 0xE0 0x7F ∷ coefficient_from_three_bytes 0x00 0xE0 0x7F ∷ [])
    ≡ Some (pos 5649426) ∷ Some (pos 13330) ∷ Some (pos 57345) ∷ None ∷ Some (pos 8380416) ∷ []
three_bytes_examples = refl

half_byte_examples : (coefficient_from_half_byte 2 3 ∷ coefficient_from_half_byte 2 15 ∷ coefficient_from_half_byte 4 8 ∷ coefficient_from_half_byte 4 9 ∷ []) ≡ Some (negsuc 0) ∷ None ∷ Some (negsuc 3) ∷ None ∷ []
half_byte_examples = refl

-- over bytes 55 every half byte is 5, so every coefficient is 2
small_over_55 : small_polynomial 2 (replicate 512 0x55) ≡ Some record { 0 = replicate 256 (pos 2) }
unfolding small_polynomial first_256
small_over_55 = refl

-- bytes 10: the low half, 0, stands before the high half, 1
small_over_10 : small_polynomial 4 (replicate 512 0x10) ≡ Some record { 0 = flat_map (λ _. pos 4 ∷ pos 3 ∷ []) (range_with_len 0 128) }
unfolding small_polynomial first_256
small_over_10 = refl

-- 2 bytes FF give nothing, and then 128 bytes 00 just enough for the limit of an output of 520 bytes; with one byte
-- more there are too few
small_at_its_limit : small_polynomial 2 (replicate 2 0xFF ++ replicate 518 0x00) ≡ Some record { 0 = replicate 256 (pos 2) }
unfolding small_polynomial first_256
small_at_its_limit = refl

small_past_its_limit : small_polynomial 2 (replicate 3 0xFF ++ replicate 517 0x00) ≡ None
unfolding small_polynomial first_256
small_past_its_limit = refl

-- the seed of an entry ends in the byte of its column and then that of its row: with an output of the two
-- bytes and then zeros, coefficient 0 of the entry at row r and column s is s + 256 r
seeds_of_entries : option_map (λ a. map (λ row. map (λ t. get_or t.0 0 (pos 0)) row) a) (sampled_matrix (λ seed. seed ++ replicate 1022 0) [] 2 2)
    ≡ Some ((pos 0 ∷ pos 1 ∷ []) ∷ (pos 256 ∷ pos 257 ∷ []) ∷ [])
unfolding sampled_matrix all_present matrix_entry first_256
seeds_of_entries = refl

-- the seed of a small polynomial ends in its number in two bytes, the low byte first: with an output that repeats the
-- first of the two bytes, each polynomial has 4 less its number at even places, 0 to 2 in s1 and 3 and 4 in s2, and
-- else 4
seeds_of_small : option_map {U = List ℤ × List ℤ} (λ v. (flat_map (λ w. drop 254 w.0) v.0, flat_map (λ w. drop 254 w.0) v.1)) (small_vectors 4 (λ seed. replicate 512 (get_or seed 0 0 + 16 * (length seed - 2))) [] 2 3)
    ≡ Some (pos 4 ∷ pos 4 ∷ pos 3 ∷ pos 4 ∷ pos 2 ∷ pos 4 ∷ [], pos 1 ∷ pos 4 ∷ pos 0 ∷ pos 4 ∷ [])
unfolding small_vectors all_present small_polynomial first_256
seeds_of_small = refl

-- the seed of a polynomial of the mask ends in kappa and its number together
seeds_of_mask : map (λ w. get_or w.0 0 (pos 0)) (mask 131072 (λ seed. seed ++ replicate 574 0) [] 2 5696) ≡ pos 125376 ∷ pos 125375 ∷ []
unfolding mask polynomial_of unpacked bits integer_to_bits bits_to_integer bit_length
seeds_of_mask = refl

-- 218 is above 217, and 219 above 218
picks_pass_over : picks 217 (218 ∷ 217 ∷ 219 ∷ 218 ∷ []) ≡ 217 ∷ 218 ∷ []
unfolding picks
picks_pass_over = refl

-- the coefficient that is put at 217 moves to 218, when 217 is picked again
places_move : places 217 (217 ∷ 217 ∷ 100 ∷ []) ≡ 218 ∷ 217 ∷ 100 ∷ []
unfolding places moved
places_move = refl

-- over bytes 55 with tau 39 every pick is 85, so -1 stands there, and from place 218 to the end -1 and 1 in turn
challenge_over_55 : challenge 39 (replicate 4096 0x55)
    ≡ Some record { 0 = replicate 85 (pos 0) ++ negsuc 0 ∷ replicate 132 (pos 0) ++ flat_map (λ _. negsuc 0 ∷ pos 1 ∷ []) (range_with_len 0 19) }
unfolding challenge picks places moved signed_sum polynomial_of bits integer_to_bits
challenge_over_55 = refl

-- no pick is at most 217 within 985 bytes FF and more; 39 bytes then are just enough
challenge_past_its_limit : challenge 39 (replicate 8 0 ++ replicate 986 0xFF ++ replicate 3102 0x00) ≡ None
unfolding challenge picks places moved signed_sum polynomial_of bits integer_to_bits
challenge_past_its_limit = refl

-- over bytes 55 every field of 18 bits is 87381, and every coefficient 131072 less it
mask_over_55 : mask 131072 (λ _. replicate 576 0x55) [] 1 0 ≡ record { 0 = replicate 256 (pos 43691) } ∷ []
unfolding mask polynomial_of unpacked bits integer_to_bits bits_to_integer bit_length
mask_over_55 = refl

-- over zeros every coefficient is gamma1, also with 20 bits
mask_over_zeros : mask 524288 (λ _. replicate 640 0) [] 1 0 ≡ record { 0 = replicate 256 (pos 524288) } ∷ []
unfolding mask polynomial_of unpacked bits integer_to_bits bits_to_integer bit_length
mask_over_zeros = refl

-- the largest counter of the mask, 813 * 7 + 6
mask_counter : to_le_bytes w16 5697 ≡ 0x41 ∷ 0x16 ∷ []
mask_counter = refl

half_byte_of_fourteen : coefficient_from_half_byte 2 14 ≡ Some (negsuc 1)
half_byte_of_fourteen = refl

-- the half bytes are 15, which gives nothing, 7, 0, 7 and then zeros
half_bytes_of_two : option_map (λ w. take 4 w.0) (small_polynomial 4 (0x7F ∷ 0x70 ∷ replicate 518 0)) ≡ Some (negsuc 2 ∷ pos 4 ∷ negsuc 2 ∷ pos 4 ∷ [])
unfolding small_polynomial first_256
half_bytes_of_two = refl

-- triples are three bytes apart
three_triples : option_map (λ t. take 4 t.0) (matrix_entry (range_with_len 0 9 ++ replicate 1023 0)) ≡ Some (pos 131328 ∷ pos 328707 ∷ pos 526086 ∷ pos 0 ∷ [])
unfolding matrix_entry first_256
three_triples = refl

-- a quarter of the output is tried: 258 triples, of which 256 have to be kept
entry_at_its_limit : (option_map (λ t. length t.0) (matrix_entry (replicate 6 0xFF ++ replicate 1026 0)) ≡ Some 256) × (option_map (λ t. length t.0) (matrix_entry (replicate 9 0xFF ++ replicate 1023 0)) ≡ None)
unfolding matrix_entry first_256
entry_at_its_limit = (refl, refl)

-- the seed of an entry is rho, its column and its row: here 7, then 0 or 1 each
seeds_of_a_matrix : option_map (λ a. map (λ row. map (λ t. get_or t.0 0 (pos 0)) row) a) (sampled_matrix (λ seed. seed ++ replicate 1021 0) (7 ∷ []) 2 2)
    ≡ Some ((pos 7 ∷ pos 263 ∷ []) ∷ (pos 65543 ∷ pos 65799 ∷ []) ∷ [])
unfolding sampled_matrix all_present matrix_entry first_256
seeds_of_a_matrix = refl

-- a coefficient moves twice
places_move_twice : places 217 (217 ∷ 217 ∷ 218 ∷ []) ≡ 219 ∷ 217 ∷ 218 ∷ []
unfolding places moved
places_move_twice = refl

-- signs are read from the first byte on, and picks from the ninth
challenge_of_two : option_map (λ c. take 9 c.0) (challenge 2 (1 ∷ replicate 7 0 ++ 255 ∷ 3 ∷ 7 ∷ replicate 9 0))
    ≡ Some (replicate 3 (pos 0) ++ negsuc 0 ∷ replicate 3 (pos 0) ++ pos 1 ∷ pos 0 ∷ [])
unfolding challenge picks places moved signed_sum polynomial_of bits integer_to_bits
challenge_of_two = refl

-- the seed of a polynomial of the mask is rho and two bytes
mask_begins_with_rho : map (λ w. take 2 w.0) (mask 131072 (λ seed. seed ++ replicate 573 0xFF) (5 ∷ []) 1 513) ≡ (negsuc 260 ∷ negsuc 131007 ∷ []) ∷ []
unfolding mask polynomial_of unpacked bits integer_to_bits bits_to_integer bit_length
mask_begins_with_rho = refl

-- no more than 256 are taken
first_of_more : option_map length (first_256 (replicate 257 (pos 7))) ≡ Some 256
unfolding first_256
first_of_more = refl

-- no eta but 2 and 4 has coefficients
half_bytes_of_other_eta : (coefficient_from_half_byte 1 0 ≡ None) × (coefficient_from_half_byte 3 0 ≡ None)
half_bytes_of_other_eta = (refl, refl)

sign_that_is_missing : signed_sum (3 ∷ []) [] 3 ≡ pos 0
unfolding signed_sum
sign_that_is_missing = refl

-- at 253 and 254 the pick is 0 again, so that the first coefficients move; twelve bytes have three for picks
challenge_of_zeros : option_map (λ c. take 2 c.0 ++ drop 253 c.0) (challenge 3 (replicate 12 0)) ≡ Some (pos 1 ∷ pos 0 ∷ pos 0 ∷ pos 1 ∷ pos 1 ∷ [])
unfolding challenge picks places moved signed_sum polynomial_of bits integer_to_bits
challenge_of_zeros = refl

-- 254 is a pick for 254, and 5 twice moves what 254 has put there
challenge_at_its_start : (option_map (λ c. drop 254 c.0) (challenge 2 (replicate 8 0 ++ 254 ∷ 1 ∷ replicate 6 0)) ≡ Some (pos 1 ∷ pos 0 ∷ []))
    × (option_map (λ c. drop 254 c.0) (challenge 2 (replicate 8 0 ++ 5 ∷ 5 ∷ replicate 6 0)) ≡ Some (pos 0 ∷ pos 1 ∷ []))
unfolding challenge picks places moved signed_sum polynomial_of bits integer_to_bits
challenge_at_its_start = (refl, refl)
