-- What a sampler's loops keep and its steps write, and parts of definitions: cited by no public clause of `fips204`;
-- nobody has to believe it.
use Rattle.std.specs.Prelude.{◌≡◌, ◌≢◌, ℕ, ◌+◌, ◌*◌, ◌-◌, ◌/◌, ◌%◌, ◌<◌, ◌≤◌, ℤ, pos, neg_ℤ, List, [], ◌∷◌, slice_index, slice_index_or, ◌++◌, take, map, filter_map, flat_map, Option, Some, None, Result, MatchResult, nat_eq, if◌then◌else◌}
use Rattle.std.specs.Int.{w16, to_le_bytes}
use Rattle.std.specs.List.{range_with_len}
use Rattle.fips204_base.specs.Packing.{width, unpacked}
use Rattle.fips204_base.specs.Sampling.{all_present, coefficient_from_three_bytes, coefficient_from_half_byte, matrix_entry, sampled_matrix, small_polynomial}
use Rattle.fips204_base.specs.declared.fault.Fault.{Fault}
use Rattle.fips204_base.specs.declared.fault.Fault.TheVariants.{SamplingLimit}
use Rattle.fips204_base.specs.declared.types.R.{R}
use Rattle.fips204_base.specs.declared.types.T.{T}

-- the first count of the new values are the first `kept` of the old ones and then those given, as many as have room among 256
abbrev pub AreKept : List ℤ → ℕ → List ℤ → List ℤ → ℕ → Type 0
AreKept old kept given new count = take count new ≡ take 256 (take kept old ++ given)

-- a step that writes what is sampled: an error where there is none
abbrev pub WritesSampled : {A : Type 0} → Option A → Result (Unit {0}) Fault → A → Type 0
WritesSampled sampled result new = MatchResult result (λ _. sampled ≡ Some new) (λ fault. (sampled ≡ None) × (fault ≡ SamplingLimit))

-- a step that writes the first n of the values f: an error where one of them is none
abbrev pub WritesEach : {A : Type 0} → (ℕ → Option A) → ℕ → Result (Unit {0}) Fault → List A → Type 0
WritesEach {A} f n result new = MatchResult result (λ _. (j : ℕ) (d : A) → j < n → f j ≡ Some (slice_index_or new j d))
    (λ fault. ((j : ℕ) × (j < n) × (f j ≡ None)) × (fault ≡ SamplingLimit))

-- a step that samples the matrix of rho: an error where there is none, and else P holds of the matrix
abbrev pub OnSampled : (List ℕ → List ℕ) → List ℕ → ℕ → ℕ → Result (Unit {0}) Fault → (List (List T) → Type 0) → Type 0
OnSampled G rho k l result P = MatchResult result (λ _. (a : List (List T)) × (sampled_matrix G rho k l ≡ Some a) × P a)
    (λ fault. (sampled_matrix G rho k l ≡ None) × (fault ≡ SamplingLimit))

-- the coefficient that triple p of an output gives, if any
unfoldable pub triple : List ℕ → ℕ → Option ℤ
triple front p = coefficient_from_three_bytes (slice_index front (3 * p)) (slice_index front (3 * p + 1)) (slice_index front (3 * p + 2))

-- the number of triple p of an output, without its top bit: the coefficient that it gives, if it is below q
abbrev pub number : List ℕ → ℕ → ℕ
number front p = slice_index front (3 * p) + 256 * slice_index front (3 * p + 1) + 65536 * (slice_index front (3 * p + 2) % 128)

-- the coefficients that the first n triples give
unfoldable pub kept_triples : List ℕ → ℕ → List ℤ
kept_triples front n = filter_map (triple front) (range_with_len 0 n)

-- the half bytes of bytes, the low half first
abbrev pub half_bytes : List ℕ → List ℕ
half_bytes bytes = flat_map (λ byte. byte % 16 ∷ byte / 16 ∷ []) bytes

-- the coefficients that the half bytes of the first n bytes give
unfoldable pub kept_half_bytes : ℕ → List ℕ → ℕ → List ℤ
kept_half_bytes eta front n = filter_map (coefficient_from_half_byte eta) (half_bytes (take n front))

-- count small polynomials, those of the numbers from first on, or none where one is none
unfoldable pub small_vector : ℕ → (List ℕ → List ℕ) → List ℕ → ℕ → ℕ → Option (List R)
small_vector eta H rho first count = all_present (map (λ r. small_polynomial eta (H (rho ++ to_le_bytes w16 r))) (range_with_len first count))

-- the entry of the matrix at row r and column s
abbrev pub sampled_entry : (List ℕ → List ℕ) → List ℕ → ℕ → ℕ → Option T
sampled_entry G rho r s = matrix_entry (G (rho ++ s ∷ r ∷ []))

-- its entry n, where entries are numbered row by row, with l in a row
abbrev pub numbered_entry : (List ℕ → List ℕ) → List ℕ → ℕ → ℕ → Option T
numbered_entry G rho l n = sampled_entry G rho (n / l) (n % l)

-- where the four entries of which n is one but not the first are all among `count`, they are there
abbrev pub AreAhead : (List ℕ → List ℕ) → List ℕ → ℕ → ℕ → ℕ → List T → Type 0
AreAhead G rho l count n ahead = (j : ℕ) (d : T) → n % 4 ≢ 0 → 4 * (n / 4) + 4 ≤ count → j < 4
    → numbered_entry G rho l (4 * (n / 4) + j) ≡ Some (slice_index_or ahead j d)

-- its row r, of l entries, or none where an entry is none
abbrev pub sampled_row : (List ℕ → List ℕ) → List ℕ → ℕ → ℕ → Option (List T)
sampled_row G rho l r = all_present (map (sampled_entry G rho r) (range_with_len 0 l))

-- the sign of a set bit is -1, of another 1
abbrev pub sign_of : ℕ → ℤ
sign_of bit = if nat_eq bit 1 then neg_ℤ (pos 1) else pos 1

-- how many bits a coefficient of z has: 18 or 20
abbrev pub mask_width : ℕ → ℕ
mask_width gamma1 = width (pos (gamma1 - 1)) (pos gamma1)

-- a polynomial of the mask: the first 32 c bytes of an output, c bits a coefficient
abbrev pub mask_polynomial : ℕ → List ℕ → R
mask_polynomial gamma1 front = unpacked (gamma1 - 1) gamma1 (take (32 * mask_width gamma1) front)
