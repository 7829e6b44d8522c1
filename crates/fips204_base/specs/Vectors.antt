-- Vectors and matrices of polynomials, and bounds on their coefficients (FIPS 204, sections 2.3 to 2.5).
use Rattle.std.specs.Prelude.{◌≡◌, ◌≤◌, ◌≤ℤ◌, ℕ, List, [], ℤ, pos, nat_abs, slice_index_or, ◌%◌, ◌-ℤ◌, length, map}
use Rattle.std.specs.List.{All, range_with_len}
use Rattle.fips204_base.specs.Residues.{coefficients, sum_below}
use Rattle.fips204_base.specs.Transforms.{product, inverse_transform}
use Rattle.fips204_base.specs.declared.types.R.{R}
use Rattle.fips204_base.specs.declared.types.T.{T}

-- every value of a matrix of transforms has an absolute value of at most m
abbrev pub MatrixWithin : ℕ → List (List T) → Type 0
MatrixWithin m a = All (λ row. All (λ t. All (λ x. nat_abs x ≤ m) t.0) row) a

-- a vector of so many polynomials, with coefficients from -a to b
pub record IsVector (count a b : ℕ) (v : List R) : Type 0 where
  pub rows : length v ≡ count
  pub places : All (λ w. length w.0 ≡ 256) v
  pub range : All (λ w. All (λ x. ((pos 0 -ℤ pos a) ≤ℤ x) × (x ≤ℤ pos b)) w.0) v

-- the residues of a vector of polynomials, by row and place
abbrev pub vector_coefficients : List R → ℕ → ℕ → ℕ
vector_coefficients v i = coefficients (slice_index_or v i record { 0 = [] }).0

-- coefficient n of polynomial r of A v, where the matrix a has the transforms of A, and v has l polynomials
unfoldable pub matrix_product : ℕ → List (List T) → (ℕ → ℕ → ℕ) → ℕ → ℕ → ℕ
matrix_product l a v r n =
    let row = slice_index_or a r [] in
    sum_below l (λ k. product (inverse_transform (coefficients (slice_index_or row k record { 0 = [] }).0)) (v k) n) % 8380417

-- the polynomial whose coefficient n is f n
unfoldable pub polynomial_of : (ℕ → ℤ) → R
polynomial_of f = record { 0 = map f (range_with_len 0 256) }

-- the vector of k polynomials whose coefficient n of polynomial r is f r n
unfoldable pub vector_of : ℕ → (ℕ → ℕ → ℤ) → List R
vector_of k f = map (λ r. polynomial_of (f r)) (range_with_len 0 k)
