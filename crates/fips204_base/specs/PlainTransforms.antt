-- What is given by its transforms, as the plain polynomials that contracts see: cited by no public clause of `fips204`;
-- nobody has to believe it.
use Rattle.std.specs.Prelude.{◌≡◌, ℕ, ℤ, List, [], pos, ◌*◌, ◌%◌, ◌<◌, slice_index_or}
use Rattle.fips204_base.specs.Residues.{coefficients, sum_below}
use Rattle.fips204_base.specs.Transforms.{inverse_transform, product}
use Rattle.fips204_base.specs.Lanes.{lane, residues}
use Rattle.fips204_base.specs.Vectors.{polynomial_of, vector_of, vector_coefficients}
use Rattle.fips204_base.specs.Bounds.{vector_residues}
use Rattle.fips204_base.specs.declared.types.R.{R}
use Rattle.fips204_base.specs.declared.types.T.{T}

-- the transform in lane r, by place
abbrev pub lane_values : List (List ℤ) → ℕ → ℕ → ℕ
lane_values w r = residues (λ xs. xs) r [] w

-- the eight polynomials whose transforms are the lanes
abbrev pub plain_vector : List (List ℤ) → List R
plain_vector w = vector_of 8 (λ r n. pos (inverse_transform (lane_values w r) n))

-- the residue whose Montgomery form is x: 8265825 * 2^32 is 1 modulo q
abbrev pub from_mont : ℕ → ℕ
from_mont x = 8265825 * x % 8380417

-- the transform that has these values in Montgomery form, by place
abbrev pub factor_values : List ℤ → ℕ → ℕ
factor_values w n = from_mont (coefficients w n)

-- the polynomial whose transform has these values in Montgomery form
abbrev pub plain_factor : List ℤ → R
plain_factor w = polynomial_of (λ n. pos (inverse_transform (factor_values w) n))

-- two vectors are the same modulo q in their first k polynomials
abbrev pub AreSameModQ : ℕ → List R → List R → Type 0
AreSameModQ k v w = (r n : ℕ) → r < k → n < 256 → vector_coefficients v r n ≡ vector_coefficients w r n

-- coefficient n of the product of a matrix's row with a vector, of l polynomials each
unfoldable pub row_product : ℕ → (ℕ → ℕ → ℕ) → (ℕ → ℕ → ℕ) → ℕ → ℕ
row_product l row v n = sum_below l (λ k. product (row k) (v k) n) % 8380417

-- the plain row of a row of transforms, by column and place
abbrev pub plain_row : List T → ℕ → ℕ → ℕ
plain_row row k = inverse_transform (vector_residues row k)

-- the first k polynomials of c v, as a vector with coefficients from 0 to q - 1
abbrev pub multiple : ℕ → R → List R → List R
multiple k c v = vector_of k (λ r n. pos (product (coefficients c.0) (vector_coefficients v r) n))

-- a polynomial, and two vectors that it multiplies
pub record Multiplied : Type 0 where
  pub factor : R
  pub first : List R
  pub second : List R

-- the coefficients of the first k polynomials of c v are in these lanes, by place
abbrev pub HasMultiple : ℕ → (ℕ → ℕ) → R → List R → List (List ℤ) → Type 0
HasMultiple k at c v lanes = (r n : ℕ) → r < k → n < 256 → lane (slice_index_or lanes n []) (at r) ≡ pos (product (coefficients c.0) (vector_coefficients v r) n)
