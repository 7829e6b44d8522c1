-- Ranges of numbers, polynomials and vectors, lanes, products, and results of decoders, for internal functions;
-- of the public clauses of `fips204` only that of the law `packing` reaches them.
use Rattle.std.specs.Prelude.{◌≡◌, ℕ, ◌*◌, ◌%◌, ◌<◌, ◌≤◌, ◌≤ℤ◌, ◌<ℤ◌, ◌+ℤ◌, ◌-ℤ◌, ◌*ℤ◌, ◌⊎◌, ℤ, pos, nat_abs, List, [], slice_index_or, Option, MatchOption}
use Rattle.std.specs.List.{All, Any}
use Rattle.fips204_base.specs.Packing.{unpacked}
use Rattle.fips204_base.specs.Residues.{coefficients, sum_below}
use Rattle.fips204_base.specs.Lanes.{lane}
use Rattle.fips204_base.specs.Streams.{Bytes}
use Rattle.fips204_base.specs.declared.types.R.{R}
use Rattle.fips204_base.specs.declared.types.T.{T}

-- eta at the parameter sets (FIPS 204, Table 1)
abbrev pub IsEta : ℤ → Type 0
IsEta eta = (eta ≡ pos 2) ⊎ (eta ≡ pos 4)

-- gamma1 at the parameter sets (FIPS 204, Table 1)
abbrev pub IsGamma1 : ℤ → Type 0
IsGamma1 gamma1 = (gamma1 ≡ pos 131072) ⊎ (gamma1 ≡ pos 524288)

-- the a and b that packing takes
abbrev pub Bounds : ℤ → ℤ → Type 0
Bounds a b = (pos 0 ≤ℤ a) × (a ≤ℤ pos 1048575) × (pos 1 ≤ℤ b) × (b ≤ℤ pos 1048575)

-- every coefficient is from lo to hi
abbrev pub PolynomialInRange : ℤ → ℤ → List ℤ → Type 0
PolynomialInRange lo hi w = All (λ x. (lo ≤ℤ x) × (x ≤ℤ hi)) w

-- every coefficient of a vector's polynomials is from lo to hi
abbrev pub VectorInRange : ℤ → ℤ → List R → Type 0
VectorInRange lo hi v = All (λ w. PolynomialInRange lo hi w.0) v

-- coefficient n of a polynomial
abbrev pub coefficient_at : List ℤ → ℕ → ℤ
coefficient_at w n = slice_index_or w n (pos 0)

-- coefficient n of polynomial r of a vector
abbrev pub coefficient_of : List R → ℕ → ℕ → ℤ
coefficient_of v r = coefficient_at (slice_index_or v r record { 0 = [] }).0

-- a result that P holds of, or none where P holds of nothing
abbrev pub Finds : {A : Type 0} → (A → Type 0) → Option A → Type 0
Finds {A} P answer = MatchOption answer ((x : A) → P x → ⊥) P

-- the same of a result that is written
abbrev pub FindsIn : {A : Type 0} → (A → Type 0) → Option (Unit {0}) → A → Type 0
FindsIn {A} P answer written = MatchOption answer ((x : A) → P x → ⊥) (λ _. P written)

-- BitUnpack's result: none where a is 0 and a field is above b, and else the polynomial that the bytes hold
abbrev pub IsUnpacked : ℤ → ℤ → Bytes → Option R → Type 0
IsUnpacked a b bytes answer = MatchOption answer
    ((a ≡ pos 0) × Any (λ x. b <ℤ x) (unpacked (nat_abs a) (nat_abs b) bytes).0)
    (λ w. (w ≡ unpacked (nat_abs a) (nat_abs b) bytes) × (a ≡ pos 0 → PolynomialInRange (pos 0) b w.0))

-- every number has an absolute value of at most m
abbrev pub ValuesWithin : ℕ → List ℤ → Type 0
ValuesWithin m w = All (λ x. nat_abs x ≤ m) w

-- each of the 256 coefficients of a polynomial has an absolute value of at most m
abbrev pub PolynomialWithin : ℕ → List ℤ → Type 0
PolynomialWithin m w = (n : ℕ) → n < 256 → nat_abs (coefficient_at w n) ≤ m

-- every coefficient of the k polynomials of a vector has an absolute value of at most m
abbrev pub VectorWithin : ℕ → ℕ → List R → Type 0
VectorWithin k m v = (r n : ℕ) → r < k → n < 256 → nat_abs (coefficient_of v r n) ≤ m

-- every coefficient of the k polynomials of a vector is from 0 to q - 1
abbrev pub IsResidueVector : ℕ → List R → Type 0
IsResidueVector k v = (r n : ℕ) → r < k → n < 256 → (pos 0 ≤ℤ coefficient_of v r n) × (coefficient_of v r n ≤ℤ pos 8380416)

-- every value of a vector of transforms has an absolute value of at most m
abbrev pub TransformsWithin : ℕ → List T → Type 0
TransformsWithin m v = All (λ t. ValuesWithin m t.0) v

-- each lane of a value is in a relation to that lane of another one
abbrev pub EachLane : (ℤ → ℤ → Type 0) → ℕ → List ℤ → List ℤ → Type 0
EachLane Related width xs ys = (j : ℕ) → j < width → Related (lane xs j) (lane ys j)

-- MontgomeryReduce (Algorithm 49): a is 2^32 r and a multiple of q by a number of 32 bits with its sign
pub record IsMontgomery (a r : ℤ) : Type 0 where
  pub factor : ℤ
  pub sum : a ≡ pos 4294967296 *ℤ r +ℤ factor *ℤ pos 8380417
  pub low : (pos 0 -ℤ pos 2147483648) ≤ℤ factor
  pub high : factor <ℤ pos 2147483648

-- the residues of a vector of transforms, by row and place
abbrev pub vector_residues : List T → ℕ → ℕ → ℕ
vector_residues v i = coefficients (slice_index_or v i record { 0 = [] }).0

-- value j of the product of a matrix's row of transforms with a vector, of l transforms each
abbrev pub row_value : ℕ → List T → List T → ℕ → ℕ
row_value l row u j = sum_below l (λ k. vector_residues row k j * vector_residues u k j) % 8380417

-- the first k of t are the products of the matrix's rows with a vector, of l transforms each
abbrev pub AreRowProducts : ℕ → ℕ → List (List T) → List T → List T → Type 0
AreRowProducts k l a u t = (i j : ℕ) → i < k → j < 256 → vector_residues t i j ≡ row_value l (slice_index_or a i []) u j
