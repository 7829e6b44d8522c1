-- What is given by its transforms: the plain polynomials, and what steps over the transforms make of them.
use Rattle.std.proofs.Common.{◌≡◌, ℕ, ◌<◌, ◌≤◌, ◌+◌, ◌*◌, ◌%◌, ◌^◌, ℤ, pos, List, [], get_or, arith, ap, sym, subst, refl, ◌∙◌, nat_abs}
use Rattle.fips204_base.proofs.Roots.{inverse_root}
use Rattle.fips204_base.specs.Bounds.{row_value, vector_residues, coefficient_of, VectorWithin}
use Rattle.fips204_base.specs.Residues.{residue, coefficients, IsCongruent}
use Rattle.fips204_base.specs.Transforms.{transform, inverse_transform, pointwise, product, minus}
use Rattle.fips204_base.specs.Lanes.{lane}
use Rattle.fips204_base.specs.Vectors.{vector_coefficients, matrix_product}
use Rattle.fips204_base.specs.PlainTransforms.{lane_values, plain_vector, factor_values, plain_factor, from_mont, plain_row, row_product, AreSameModQ, multiple}
use Rattle.fips204_base.specs.declared.types.R.{R}
use Rattle.fips204_base.specs.declared.types.T.{T}
use Rattle.fips204_base.proofs.Residues.{congruent_of, congruent_sym, congruent_trans, congruent_mod, congruent_refl, congruent_add, congruent_mul, congruent_equal, congruent_equal_mod, residue_below, sum_equal, sum_below-times}
use Rattle.fips204_base.proofs.Transforms.{inverse_of_transform, transform_of_inverse}
use Rattle.fips204_base.proofs.Products.{transform_same, transform_below, transform_of_minus, inverse_below, inverse_reduced, inverse_same, product_below, product_same, product_of_products, row_of_products, row_below}
use Rattle.fips204_base.proofs.Vectors.{vector_of-entry, polynomial_of-at}
use Rattle.std.proofs.lemmas.Int.{ints}
use Rattle.std.proofs.lemmas.Grind.{common_steps}

-- the plain matrix of a matrix of transforms, by row, column and place
abbrev pub plain_matrix : List (List T) → ℕ → ℕ → ℕ → ℕ
plain_matrix a i = plain_row (get_or a i [])

-- ---- the inverse transform
pub inverse_of_zeros : (v : ℕ → ℕ) (j : ℕ) → ((i : ℕ) → i < 256 → v i ≡ 0) → inverse_transform v j ≡ 0
unfolding inverse_transform inverse_root
inverse_of_zeros v j h = inverse_same v (λ i. 0) (λ i p. congruent_of (h i p)) j ∙ none
  where
    none : inverse_transform (λ i. 0) j ≡ 0
    none = let e = sum_below-times 256 0 (λ i. inverse_root i ^ j) in rw e (omega arith)

inverse_of_minus : (a b : ℕ → ℕ) (n : ℕ) → n < 256 → inverse_transform (minus a b) n ≡ minus (inverse_transform a) (inverse_transform b) n
inverse_of_minus a b n p =
    let x = inverse_transform a in
    let y = inverse_transform b in
    inverse_same (minus a b) (transform (minus x y)) (λ j q.
    congruent_trans (congruent_mod (a j + 8380416 * b j)) (congruent_trans (congruent_add (congruent_sym (transform_of_inverse a j q)) (congruent_mul (congruent_refl 8380416) (congruent_sym (transform_of_inverse b j q)))) (congruent_sym (transform_of_minus x y j)))) n
    ∙ (inverse_reduced (transform (minus x y)) n ∙ (congruent_equal_mod (inverse_of_transform (minus x y) n p) ∙ omega arith))

-- residues are the transform of their inverse transform
own : (v a : ℕ → ℕ) → ((j : ℕ) → j < 256 → a j ≡ inverse_transform v j) → (i : ℕ) → i < 256 → v i < 8380417 → v i ≡ transform a i
own v a h i p below =
    congruent_equal (congruent_sym (congruent_trans (congruent_of (transform_same a (inverse_transform v) (λ j q. congruent_of (h j q)) i)) (transform_of_inverse v i p))) below (transform_below a i)

-- ---- vectors
lane_below : (w : List (List ℤ)) (r i : ℕ) → lane_values w r i < 8380417
lane_below w r i = residue_below (lane (get_or w i []) r)

plain-entry : (w : List (List ℤ)) (r n : ℕ) → r < 8 → n < 256 → coefficient_of (plain_vector w) r n ≡ pos (inverse_transform (lane_values w r) n)
plain-entry w r n h l = vector_of-entry 8 (λ r n. pos (inverse_transform (lane_values w r) n)) r n h l

pub plain-at : (w : List (List ℤ)) (r n : ℕ) → r < 8 → n < 256 → vector_coefficients (plain_vector w) r n ≡ inverse_transform (lane_values w r) n
plain-at w r n h l = ap residue (plain-entry w r n h l) ∙ sym (inverse_reduced (lane_values w r) n)

plain-transform : (w : List (List ℤ)) (r : ℕ) → r < 8 → (i : ℕ) → i < 256 → lane_values w r i ≡ transform (vector_coefficients (plain_vector w) r) i
plain-transform w r h i p = own (lane_values w r) (vector_coefficients (plain_vector w) r) (λ j q. plain-at w r j h q) i p (lane_below w r i)

-- a polynomial whose lane stays
pub plain-same : (v w : List (List ℤ)) (r n : ℕ) → r < 8 → n < 256 → ((i : ℕ) → i < 256 → lane (get_or w i []) r ≡ lane (get_or v i []) r) → vector_coefficients (plain_vector w) r n ≡ vector_coefficients (plain_vector v) r n
plain-same v w r n h l same = plain-at w r n h l ∙ inverse_same (lane_values w r) (lane_values v r) (λ i p. congruent_of (ap residue (same i p))) n ∙ sym (plain-at v r n h l)

-- the zero vector
pub plain-zeros : (w : List (List ℤ)) (r n : ℕ) → r < 8 → n < 256 → ((i : ℕ) → i < 256 → lane_values w r i ≡ 0) → vector_coefficients (plain_vector w) r n ≡ 0
plain-zeros w r n h l z = plain-at w r n h l ∙ inverse_of_zeros (lane_values w r) n z

-- lanes that are the transforms of a polynomial's residues
pub plain-transformed : (before : ℕ → ℕ) (after : List (List ℤ)) (w : ℕ → ℕ) (r n : ℕ) → r < 8 → n < 256 → ((i : ℕ) → i < 256 → IsCongruent (lane_values after r i) (transform before i))
    → ((i : ℕ) → i < 256 → before i ≡ w i) → w n < 8380417 → vector_coefficients (plain_vector after) r n ≡ w n
plain-transformed before after w r n h l made from below =
    plain-at after r n h l
    ∙ inverse_same (lane_values after r) (transform w) (λ i p. congruent_trans (made i p) (congruent_of (transform_same before w (λ j q. congruent_of (from j q)) i))) n
    ∙ congruent_equal (inverse_of_transform w n l) (inverse_below (transform w) n) below

-- ---- products
factor-at : (c : List ℤ) (n : ℕ) → n < 256 → coefficients (plain_factor c).0 n ≡ inverse_transform (factor_values c) n
factor-at c n l = ap residue (polynomial_of-at (λ n. pos (inverse_transform (factor_values c) n)) n l) ∙ sym (inverse_reduced (factor_values c) n)

factor-transform : (c : List ℤ) (i : ℕ) → i < 256 → factor_values c i ≡ transform (coefficients (plain_factor c).0) i
factor-transform c i p = own (factor_values c) (coefficients (plain_factor c).0) (factor-at c) i p (omega arith)

-- values in Montgomery form of the transform of a polynomial's residues
pub factor-transformed : (c : List ℤ) (w : ℕ → ℕ) → ((i : ℕ) → i < 256 → IsCongruent (factor_values c i) (transform w i)) → (n : ℕ) → n < 256 → w n < 8380417 → coefficients (plain_factor c).0 n ≡ w n
factor-transformed c w made n l below =
    factor-at c n l ∙ inverse_same (factor_values c) (transform w) made n ∙ congruent_equal (inverse_of_transform w n l) (inverse_below (transform w) n) below

-- the lanes of z are the products of the factor with those of v
pub plain-multiple : (c : List ℤ) (v : List (List ℤ)) (z : ℕ → ℕ) (r n : ℕ) → r < 8 → n < 256 → ((i : ℕ) → i < 256 → z i ≡ factor_values c i * lane_values v r i % 8380417)
    → inverse_transform z n ≡ product (coefficients (plain_factor c).0) (vector_coefficients (plain_vector v) r) n
plain-multiple c v z r n h l made =
    product_of_products z (factor_values c) (lane_values v r) (coefficients (plain_factor c).0) (vector_coefficients (plain_vector v) r) made (factor-transform c) (plain-transform v r h) n l

pub plain-difference : (c : List ℤ) (v before after : List (List ℤ)) (r n : ℕ) → r < 8 → n < 256
    → ((i : ℕ) → i < 256 → lane_values after r i ≡ (lane_values before r i + 8380416 * (factor_values c i * lane_values v r i % 8380417)) % 8380417)
    → vector_coefficients (plain_vector after) r n ≡ minus (vector_coefficients (plain_vector before) r) (product (coefficients (plain_factor c).0) (vector_coefficients (plain_vector v) r)) n
plain-difference c v before after r n h l made =
    let z = pointwise (factor_values c) (lane_values v r) in
    plain-at after r n h l ∙ inverse_same (lane_values after r) (minus (lane_values before r) z) (λ i p. congruent_of (made i p)) n
    ∙ inverse_of_minus (lane_values before r) z n l
    ∙ rw (plain-at before r n h l, plain-multiple c v z r n h l (λ i p. refl)) refl

-- the lanes of w are the sums of the products of a row with the transforms t
pub plain-row : (columns : ℕ) (row t : List T) (w : List (List ℤ)) (r n : ℕ) → r < 8 → n < 256 → ((i : ℕ) → i < 256 → lane_values w r i ≡ row_value columns row t i)
    → vector_coefficients (plain_vector w) r n ≡ row_product columns (plain_row row) (plain_row t) n
plain-row columns row t w r n h l made =
    plain-at w r n h l
    ∙ row_of_products columns (lane_values w r) (vector_residues row) (vector_residues t) (plain_row t) made (λ k i j p. own (vector_residues t k) (plain_row t k) (λ i q. refl) j p (residue_below _)) n l

-- the transforms in the lanes of v, one after the other
pub plain-values : (t : List T) (v : List (List ℤ)) (k n : ℕ) → k < 8 → n < 256 → ((i : ℕ) → i < 256 → vector_residues t k i ≡ lane_values v k i) → plain_row t k n ≡ vector_coefficients (plain_vector v) k n
plain-values t v k n h l same = inverse_same (vector_residues t k) (lane_values v k) (λ i p. congruent_of (same i p)) n ∙ sym (plain-at v k n h l)

-- vectors that are the same have the same product with a row
pub row-same : (columns : ℕ) (row v w : ℕ → ℕ → ℕ) (n : ℕ) → ((k j : ℕ) → k < columns → j < 256 → v k j ≡ w k j) → n < 256 → row_product columns row v n ≡ row_product columns row w n
unfolding row_product
row-same columns row v w n f l = grind (arith, ints, common_steps, sum_equal, product_same, congruent_refl, congruent_of)

-- a row of the matrix times a vector
pub matrix-row : (l : ℕ) (a : List (List T)) (v : ℕ → ℕ → ℕ) (r n : ℕ) → matrix_product l a v r n ≡ row_product l (plain_matrix a r) v n
unfolding matrix_product row_product
matrix-row l a v r n = refl

pub matrix_below : (l : ℕ) (a : List (List T)) (v : ℕ → ℕ → ℕ) (r n : ℕ) → matrix_product l a v r n < 8380417
matrix_below l a v r n = rw (matrix-row l a v r n) (row_below l (plain_matrix a r) v n)

-- Montgomery form and back
pub back_from_mont : (x y : ℕ) → x ≡ 4294967296 * y % 8380417 → y < 8380417 → from_mont x ≡ y
back_from_mont x y e h = omega (arith, e, h)

-- a multiple as a vector
pub multiple-within : (k : ℕ) (c : R) (v out : List R) → out ≡ multiple k c v → VectorWithin k 8380416 out
multiple-within k c v out e r n h l =
    let below = product_below (coefficients c.0) (vector_coefficients v r) n in
    subst (λ x. nat_abs x ≤ 8380416) (sym (ap (λ w. coefficient_of w r n) e ∙ vector_of-entry k (λ r n. pos (product (coefficients c.0) (vector_coefficients v r) n)) r n h l)) (omega (arith, below))

-- ---- what is the same modulo q has the same products
pub multiple-same : (c d : R) (v w : List R) (k r n : ℕ) → ((j : ℕ) → j < 256 → coefficients c.0 j ≡ coefficients d.0 j) → AreSameModQ k v w → r < k → n < 256
    → product (coefficients c.0) (vector_coefficients v r) n ≡ product (coefficients d.0) (vector_coefficients w r) n
multiple-same c d v w k r n e f h l =
    product_same (coefficients c.0) (vector_coefficients v r) (coefficients d.0) (vector_coefficients w r) (λ j p. congruent_of (e j p)) (λ j p. congruent_of (f r j h p)) n l

pub matrix-same : (k : ℕ) (a : List (List T)) (v w : List R) (r n : ℕ) → AreSameModQ k v w → n < 256
    → matrix_product k a (vector_coefficients v) r n ≡ matrix_product k a (vector_coefficients w) r n
unfolding matrix_product
matrix-same k a v w r n f l = grind (arith, ints, common_steps, sum_equal, product_same, congruent_refl, congruent_of)
