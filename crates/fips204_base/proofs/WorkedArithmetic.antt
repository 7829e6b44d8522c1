-- Worked values of residues, products, transforms, norms and rounding.
use Rattle.std.proofs.Common.{◌≡◌, pos, negsuc, [], ◌∷◌, refl, cond, rules, ◌++◌, if◌then◌else◌, map, true, false, ◌*◌, ◌+◌, ◌-◌, ◌%◌, ◌^◌}
use Rattle.std.proofs.Math.Dec.{eqb}
use Rattle.fips204_base.specs.Residues.{residue, coefficients, sum_below, centred, norm, vector_norm, centred_modulo}
use Rattle.fips204_base.specs.PlainTransforms.{from_mont}
use Rattle.fips204_base.specs.Transforms.{bit_reversed, zeta_at, transform, inverse_transform, product, plus, minus, pointwise}
use Rattle.fips204_base.specs.Vectors.{matrix_product}
use Rattle.fips204_base.specs.Bounds.{coefficient_at, coefficient_of, IsMontgomery}
use Rattle.std.specs.Prelude.{replicate, nat_eq}
use Rattle.std.specs.List.{range_with_len, flat_map}
use Rattle.fips204_base.specs.Packing.{polynomial_bytes, bits_to_bytes, bits, integer_to_bits, bits_to_integer, bit_length}
use Rattle.fips204_base.specs.Lanes.{lane, lane_at}
use Rattle.fips204_base.specs.Rounding.{power2round, decompose, make_hint, use_hint, high_count}

-- Worked values of the definitions of residues, products and transforms.

residues_of_ends : (residue (negsuc 0) ≡ 8380416) × (residue (pos 8380417) ≡ 0) × (residue (negsuc 8380416) ≡ 0)
residues_of_ends = (refl, refl, refl)

centres : (centred (pos 4190208) ≡ pos 4190208) × (centred (pos 4190209) ≡ negsuc 4190207) × (centred (negsuc 0) ≡ negsuc 0)
unfolding centred
centres = (refl, refl, refl)

norms : norm (pos 3 ∷ pos 8380416 ∷ pos 4190209 ∷ []) ≡ 4190208
unfolding centred
norms = refl

-- 2^32 is 1 in Montgomery form, and 1 is -114592
montgomery_of_word : IsMontgomery (pos 4294967296) (pos 1)
montgomery_of_word = record { factor = pos 0; sum = refl; low = search rules; high = search rules }

montgomery_of_one : IsMontgomery (pos 1) (negsuc 114591)
montgomery_of_one = record { factor = pos 58728449; sum = refl; low = search rules; high = search rules }

reversals : (bit_reversed 1 ≡ 128) × (bit_reversed 6 ≡ 96) × (bit_reversed 255 ≡ 255)
unfolding bit_reversed sum_below
reversals = (refl, refl, refl)

zetas : (zeta_at 1 ≡ 4808194) × (zeta_at 2 ≡ 3765607) × (zeta_at 3 ≡ 3761513) × (zeta_at 255 ≡ 7648983)
unfolding zeta_at bit_reversed sum_below
zetas = (refl, refl, refl, refl)

-- the transform of X is the list of the roots
transform_of_x : (transform (λ j. cond (eqb j 1) 1 0) 0 ≡ 1753) × (transform (λ j. cond (eqb j 1) 1 0) 1 ≡ 8378664)
unfolding transform bit_reversed sum_below
transform_of_x = (refl, refl)

-- the transform of 1 is 1 everywhere
transform_of_one : (transform (λ j. cond (eqb j 0) 1 0) 0 ≡ 1) × (transform (λ j. cond (eqb j 0) 1 0) 200 ≡ 1)
unfolding transform bit_reversed sum_below
transform_of_one = (refl, refl)

-- coefficient 1 of what has 1 at one point and 0 at the others is the inverse of the point, times 8347681: 1753^511, which is 731434, then
-- 7648983, and 1753 at the last point
inverse_points : (inverse_transform (λ i. if nat_eq i 0 then 1 else 0) 1 ≡ 7008362) × (inverse_transform (λ i. if nat_eq i 1 then 1 else 0) 1 ≡ 1372055) × (inverse_transform (λ i. if nat_eq i 255 then 1 else 0) 1 ≡ 1276711)
unfolding inverse_transform bit_reversed sum_below
inverse_points = (refl, refl, refl)

-- what has 1 everywhere for its transform is 1, and what has the points is X
inverse_transform_of_ones : (inverse_transform (λ _. 1) 0 ≡ 1) × (inverse_transform (λ _. 1) 5 ≡ 0)
unfolding inverse_transform bit_reversed sum_below
inverse_transform_of_ones = (refl, refl)

inverse_transform_of_points : map (inverse_transform (λ i. 1753 ^ (2 * bit_reversed i + 1) % 8380417)) (range_with_len 0 3) ≡ 0 ∷ 1 ∷ 0 ∷ []
unfolding inverse_transform bit_reversed sum_below
inverse_transform_of_points = refl

-- the second row of a matrix times a vector: the sum of its two products, modulo q
second_row : matrix_product 2 ([] ∷ (record { 0 = replicate 256 (pos 1) } ∷ record { 0 = replicate 256 (pos 5) } ∷ []) ∷ []) (λ k i. if nat_eq i 2 then 8380416 - k else 0) 1 2
    ≡ (0 + product (inverse_transform (coefficients (replicate 256 (pos 1)))) (λ i. if nat_eq i 2 then 8380416 else 0) 2 + product (inverse_transform (coefficients (replicate 256 (pos 5)))) (λ i. if nat_eq i 2 then 8380415 else 0) 2) % 8380417
unfolding matrix_product sum_below
second_row = refl

-- X^255 X is minus one, and X^255 X^2 is minus X
product_of_powers : (product (λ j. cond (eqb j 255) 1 0) (λ j. cond (eqb j 1) 1 0) 0 ≡ 8380416) × (product (λ j. cond (eqb j 255) 1 0) (λ j. cond (eqb j 1) 1 0) 1 ≡ 0) × (product (λ j. cond (eqb j 255) 1 0) (λ j. cond (eqb j 2) 1 0) 1 ≡ 8380416)
unfolding product sum_below
product_of_powers = (refl, refl, refl)

-- Worked values of centring, the norm, the product, and packing.

-- modulo an even number the upper end belongs to the range, and the lower one doesn't
centred_even : map (centred_modulo 8192) (4096 ∷ 4097 ∷ 8191 ∷ []) ≡ (pos 4096 ∷ negsuc 4094 ∷ negsuc 0 ∷ [])
centred_even = refl

-- modulo an odd number both ends belong to it
centred_odd : map centred (pos 4190208 ∷ pos 4190209 ∷ pos 8380416 ∷ negsuc 4190208 ∷ []) ≡ (pos 4190208 ∷ negsuc 4190207 ∷ negsuc 0 ∷ pos 4190208 ∷ [])
unfolding centred
centred_odd = refl

-- the norm is that of the centred coefficients
norm_at_the_ends : map norm ((pos 1 ∷ pos 4190208 ∷ []) ∷ (pos 4190209 ∷ negsuc 5 ∷ []) ∷ (pos 8380416 ∷ negsuc 0 ∷ []) ∷ (negsuc 4190208 ∷ []) ∷ []) ≡ (4190208 ∷ 4190208 ∷ 1 ∷ 4190208 ∷ [])
unfolding centred
norm_at_the_ends = refl

-- X^255 times X is -1: q - 1 at place 0, and 0 at others
highest_times_x : map (product (λ i. if nat_eq i 255 then 1 else 0) (λ i. if nat_eq i 1 then 1 else 0)) (range_with_len 0 8 ++ range_with_len 248 8) ≡ 8380416 ∷ replicate 15 0
unfolding product sum_below
highest_times_x = refl

-- every coefficient of t0 is 2, so every field is 4094, in 13 bits
fields_of_t0 : polynomial_bytes (pos 4095) (pos 4096) (replicate 256 (pos 2)) ≡ flat_map (λ _. 0xFE ∷ 0xCF ∷ 0xFF ∷ 0xF9 ∷ 0x3F ∷ 0xFF ∷ 0xE7 ∷ 0xFF ∷ 0xFC ∷ 0x9F ∷ 0xFF ∷ 0xF3 ∷ 0x7F ∷ []) (range_with_len 0 32)
unfolding bits_to_bytes bits integer_to_bits bits_to_integer polynomial_bytes bit_length
fields_of_t0 = refl

-- Worked values of rounding and of hints.

power2round_edges : map power2round (4096 ∷ 4097 ∷ 8380416 ∷ []) ≡ (0, pos 4096) ∷ (1, negsuc 4094) ∷ (1023, pos 0) ∷ []
power2round_edges = refl

-- the last multiple of 2 gamma2 below q - 1, and the edge above it
decompose_edge_44 : map (decompose 95232) (8285184 ∷ 8285185 ∷ 8380416 ∷ []) ≡ (43, pos 95232) ∷ (0, negsuc 95231) ∷ (0, negsuc 0) ∷ []
unfolding decompose
decompose_edge_44 = refl

decompose_edge_65_87 : map (decompose 261888) (8118528 ∷ 8118529 ∷ 8380416 ∷ []) ≡ (15, pos 261888) ∷ (0, negsuc 261887) ∷ (0, negsuc 0) ∷ []
unfolding decompose
decompose_edge_65_87 = refl

high_counts_of_sets : map high_count (95232 ∷ 261888 ∷ []) ≡ 44 ∷ 16 ∷ []
high_counts_of_sets = refl

-- at 0 a hint goes down, past 0 to the last value; above 0 up; at the last value from above back to 0
use_hint_at_zero : (use_hint 95232 true 0 ∷ use_hint 261888 true 0 ∷ use_hint 95232 true 1 ∷ use_hint 95232 false 0 ∷ use_hint 95232 true 8285184 ∷ []) ≡ 43 ∷ 15 ∷ 1 ∷ 0 ∷ 0 ∷ []
unfolding use_hint decompose
use_hint_at_zero = refl

-- from 95232 one more is the next multiple; from 8285184 the edge at q - 1, which has high bits 0
make_hint_steps : (make_hint 95232 1 95232 ∷ make_hint 95232 1 95231 ∷ make_hint 95232 1 8285184 ∷ make_hint 95232 1 8380416 ∷ []) ≡ true ∷ false ∷ true ∷ false ∷ []
unfolding decompose
make_hint_steps = refl

below_minus_q : residue (negsuc 8380417) ≡ 8380416
below_minus_q = refl

-- X times X is X^2, -1 times 2 is reduced, and place 256 is no part of a polynomial
product_inside : (product (λ i. if nat_eq i 256 then 1 else 0) (λ _. 1) 5 ≡ 0) × (product (λ i. if nat_eq i 1 then 1 else 0) (λ i. if nat_eq i 1 then 1 else 0) 2 ≡ 1) × (product (λ i. if nat_eq i 0 then 8380416 else 0) (λ i. if nat_eq i 0 then 2 else 0) 0 ≡ 8380415)
unfolding product sum_below
product_inside = (refl, refl, refl)

-- a step down from 1, and one up to 3
use_hint_between : (use_hint 95232 true 95233 ≡ 0) × (use_hint 95232 true 380928 ≡ 1) × (use_hint 95232 true 380929 ≡ 3) × (use_hint 261888 true 8118528 ≡ 0)
unfolding use_hint decompose
use_hint_between = (refl, refl, refl, refl)

sums_reduced : (plus (λ n. 8380416) (λ n. 3) 0 ≡ 2) × (minus (λ n. 1) (λ n. 3) 0 ≡ 8380415) × (pointwise (λ i. 8380416) (λ i. i) 5 ≡ 8380412)
sums_reduced = (refl, refl, refl)

largest_norm : vector_norm (record { 0 = pos 3 ∷ [] } ∷ record { 0 = negsuc 6 ∷ [] } ∷ record { 0 = [] } ∷ []) ≡ 7
unfolding centred
largest_norm = refl

norms_of_zeros : (norm (pos 0 ∷ []) ≡ 0) × (vector_norm (record { 0 = pos 0 ∷ [] } ∷ []) ≡ 0)
unfolding centred
norms_of_zeros = (refl, refl)

-- the transform sums places 0 to 255, at points that are reduced
transform_at_its_ends : (transform (λ j. if nat_eq j 255 then 1 else 0) 0 ≡ 7648983) × (transform (λ j. if nat_eq j 256 then 1 else 0) 0 ≡ 0)
    × (transform (λ j. if nat_eq j 1 then 1 else 0) 1 ≡ 8378664)
unfolding transform bit_reversed sum_below
transform_at_its_ends = (refl, refl, refl)

-- 4193792 is 2^32 modulo q
montgomery_form_of_one : from_mont 4193792 ≡ 1
montgomery_form_of_one = refl

-- coefficients and lanes by place; those that are not there are 0
by_place : (coefficient_at (pos 5 ∷ pos 7 ∷ []) 1 ≡ pos 7) × (coefficient_at [] 3 ≡ pos 0) × (lane (pos 5 ∷ pos 7 ∷ []) 1 ≡ pos 7) × (lane [] 3 ≡ pos 0)
    × (coefficient_of (record { 0 = [] } ∷ record { 0 = pos 5 ∷ pos 7 ∷ [] } ∷ []) 1 1 ≡ pos 7)
    × (lane_at (λ xs. xs) 1 [] ((pos 5 ∷ []) ∷ (pos 6 ∷ negsuc 6 ∷ []) ∷ []) 1 ≡ negsuc 6)
by_place = (refl, refl, refl, refl, refl, refl)

-- the largest number of 32 bits
widest : bit_length 4294967295 ≡ 32
unfolding bit_length
widest = refl
