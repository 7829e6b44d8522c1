-- Samplers: the matrix, small vectors, the challenge and the mask (FIPS 204, Algorithms 14, 15 and 29 to 34).
use Rattle.std.specs.Prelude.{ℕ, ◌+◌, ◌*◌, ◌%◌, ℤ, pos, ◌-ℤ◌, Option, Some, None, ◌&&◌, if◌then◌else◌, nat_eq, nat_lt, List, [], ◌∷◌, ◌++◌, length, take, option_map, option_and_then, ◌/◌, map, filter_map, slice_index, flat_map, ◌-◌, ◌+ℤ◌, neg_ℤ, drop, nat_le}
use Rattle.std.specs.Int.{w16, to_le_bytes}
use Rattle.std.specs.List.{range_with_len}
use Rattle.fips204_base.specs.Packing.{bits, unpacked}
use Rattle.fips204_base.specs.Streams.{Bytes, XOF}
use Rattle.fips204_base.specs.Vectors.{polynomial_of}
use Rattle.fips204_base.specs.declared.types.R.{R}
use Rattle.fips204_base.specs.declared.types.T.{T}

-- CoeffFromThreeBytes (Algorithm 14): the number of three bytes, the lowest first, without the top bit of the last; or none from q on
abbrev pub coefficient_from_three_bytes : ℕ → ℕ → ℕ → Option ℤ
coefficient_from_three_bytes b0 b1 b2 =
    let number = b0 + 256 * b1 + 65536 * (b2 % 128) in
    if nat_lt number 8380417 then Some (pos number) else None

-- CoeffFromHalfByte (Algorithm 15): with eta 2, 2 - (b mod 5) where b < 15; with eta 4, 4 - b where b < 9; else none
abbrev pub coefficient_from_half_byte : ℕ → ℕ → Option ℤ
coefficient_from_half_byte eta b =
    if nat_eq eta 2 && nat_lt b 15 then Some (pos 2 -ℤ pos (b % 5))
    else if nat_eq eta 4 && nat_lt b 9 then Some (pos 4 -ℤ pos b)
    else None

-- the first 256 of the coefficients kept, or none where fewer were kept
unfoldable pub first_256 : List ℤ → Option (List ℤ)
first_256 kept = if nat_lt (length kept) 256 then None else Some (take 256 kept)

-- the list of the values, or none where one of them is none
unfoldable pub all_present : {A : Type 0} → List (Option A) → Option (List A)
all_present [] = Some []
all_present (x ∷ xs) = option_and_then (λ value. option_map (λ values. value ∷ values) (all_present xs)) x

-- ---- The matrix (Algorithms 30 and 32)

-- RejNTTPoly (Algorithm 30): the first 256 coefficients of as many triples as a quarter of an output has bytes, or none
unfoldable pub matrix_entry : Bytes → Option T
matrix_entry front =
    let triple = λ (p : ℕ). coefficient_from_three_bytes (slice_index front (3 * p)) (slice_index front (3 * p + 1)) (slice_index front (3 * p + 2)) in
    option_map (λ values. record { 0 = values }) (first_256 (filter_map triple (range_with_len 0 (length front / 4))))

-- ExpandA (Algorithm 32): k rows of l entries, that at row r and column s from G over rho and the bytes s and r; or none where one is none
unfoldable pub sampled_matrix : XOF → Bytes → ℕ → ℕ → Option (List (List T))
sampled_matrix G rho k l =
    all_present (map (λ r. all_present (map (λ s. matrix_entry (G (rho ++ s ∷ r ∷ []))) (range_with_len 0 l))) (range_with_len 0 k))

-- ---- Small polynomials (Algorithms 31 and 33)

-- RejBoundedPoly (Algorithm 31): the first 256 coefficients of half bytes, a byte's low one first, of the output's first quarter; or none
unfoldable pub small_polynomial : ℕ → Bytes → Option R
small_polynomial eta front =
    let half_bytes = flat_map (λ byte. byte % 16 ∷ byte / 16 ∷ []) (take (length front / 4) front) in
    option_map (λ values. record { 0 = values }) (first_256 (filter_map (coefficient_from_half_byte eta) half_bytes))

-- ExpandS (Algorithm 33): s1, polynomials 0 to l - 1, and s2, l to l + k - 1, that at r from H(rho', r in two bytes); or none
unfoldable pub small_vectors : ℕ → XOF → Bytes → ℕ → ℕ → Option (List R × List R)
small_vectors eta H rho k l =
    let vector = λ (first count : ℕ). all_present (map (λ r. small_polynomial eta (H (rho ++ to_le_bytes w16 r))) (range_with_len first count)) in
    option_and_then (λ s1. option_map (λ s2. (s1, s2)) (vector l k)) (vector 0 l)

-- ---- The challenge (Algorithm 29)

-- the picks for i and the numbers after it: a byte above the number is passed over, and the first other one is its pick
unfoldable pub picks : ℕ → Bytes → List ℕ
picks i [] = []
picks i (byte ∷ bytes) = (if nat_le byte i then byte ∷ [] else []) ++ picks (if nat_le byte i then i + 1 else i) bytes

-- where the coefficient at `place` before i comes to: each later number that picks the place it is at moves it to the number's own place
unfoldable pub moved : ℕ → ℕ → List ℕ → ℕ
moved i place [] = place
moved i place (pick ∷ later) = moved (i + 1) (if nat_eq pick place then i else place) later

-- the places of all coefficients: that of i starts at the pick of i
unfoldable pub places : ℕ → List ℕ → List ℕ
places i [] = []
places i (pick ∷ later) = moved (i + 1) pick later ∷ places (i + 1) later

-- coefficient n of the polynomial with a term sign_i X^place(i) for each i; the sign of a set bit is -1, of another 1
unfoldable pub signed_sum : List ℕ → List ℕ → ℕ → ℤ
signed_sum [] sign_bits n = pos 0
signed_sum (place ∷ later) [] n = pos 0
signed_sum (place ∷ later) (bit ∷ sign_bits) n = (if nat_eq place n then (if nat_eq bit 1 then neg_ℤ (pos 1) else pos 1) else pos 0) +ℤ signed_sum later sign_bits n

-- SampleInBall (Algorithm 29): the sum over i from 256 - tau to 255 of sign_i X^place(i), or none where a pick is missing; picks are from
-- the bytes after the first eight, a quarter as many as the output has, and sign_i is that of bit i + tau - 256 of the first eight
unfoldable pub challenge : ℕ → Bytes → Option R
challenge tau front =
    let picked = take tau (picks (256 - tau) (take (length front / 4) (drop 8 front))) in
    if nat_lt (length picked) tau then None
    else Some (polynomial_of (signed_sum (places (256 - tau) picked) (bits 8 (take 8 front))))

-- ---- The mask (Algorithm 34)

-- ExpandMask (Algorithm 34): l polynomials, that at r from the first bits of H(rho'', kappa + r in two bytes), 18 or 20 a coefficient
unfoldable pub mask : ℕ → XOF → Bytes → ℕ → ℕ → List R
mask gamma1 H rho l kappa = map (λ r. unpacked (gamma1 - 1) gamma1 (H (rho ++ to_le_bytes w16 (kappa + r)))) (range_with_len 0 l)
