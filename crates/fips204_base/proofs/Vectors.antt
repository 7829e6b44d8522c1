-- Vectors that are given by their coefficients, and lists that a loop writes polynomial by polynomial.
use Rattle.std.proofs.Common.{◌≡◌, ℕ, ◌<◌, ◌≤◌, ◌+◌, List, length, get_or, set, get_or-set_same, get_or-set_other, arith, sym, subst, ◌∙◌, ◌≤ℤ◌, ◌-ℤ◌, ℤ, pos, ap, [], ◌∷◌, ◌++◌, replicate}
use native.Mathlib.Decide.{dec_lt}
use Rattle.std.proofs.lemmas.Int.{ints}
use Rattle.std.proofs.lemmas.List.{ext_get_or, get_or_append_left, get_or-replicate, length-replicate}
use Rattle.std.proofs.lemmas.List.Elements.{All-from_get_or}
use Rattle.std.proofs.lemmas.List.FromFn.{get_or-map-range_with_len, length-map-range_with_len}
use Rattle.fips204_base.specs.declared.types.R.{R}
use Rattle.fips204_base.specs.Vectors.{IsVector, polynomial_of, vector_of}
use Rattle.fips204_base.specs.Bounds.{VectorWithin, PolynomialInRange, coefficient_of}
use Rattle.std.proofs.lemmas.Grind.{common_steps}

-- Lists that a loop writes row by row.

-- one row more of which Q holds
pub row_written : {A : Type 0} (Q : ℕ → A → Type 0) (out : List A) (row : ℕ) (x d : A) → row < length out →
    ((r : ℕ) → r < row → Q r (get_or out r d)) → Q row x → (r : ℕ) → r < row + 1 → Q r (get_or (set out row x) r d)
row_written Q out row x d p before now r h = grind (arith, ints, common_steps, dec_lt, get_or-set_other, get_or-set_same)

-- the rows behind it stay
pub rows_ahead : {A : Type 0} (first out : List A) (row : ℕ) (x : A) → ((r : ℕ) (d : A) → row ≤ r → get_or out r d ≡ get_or first r d) →
    (r : ℕ) (d : A) → row + 1 ≤ r → get_or (set out row x) r d ≡ get_or first r d
rows_ahead first out row x rest r d h = get_or-set_other out row r x d (omega (arith, h)) ∙ rest r d (omega (arith, h))

-- each of the first 256 of 257 values
pub get_or-padded : {A : Type 0} (x y d : A) (n : ℕ) → n < 256 → get_or (replicate 256 x ++ y ∷ []) n d ≡ x
get_or-padded x y d n h = get_or_append_left (replicate 256 x) (y ∷ []) d n (subst (λ m. n < m) (sym (length-replicate 256 x)) h) ∙ get_or-replicate 256 n x d h

-- Vectors that are given by their coefficients.

pub length-polynomial_of : (f : ℕ → ℤ) → length (polynomial_of f).0 ≡ 256
unfolding polynomial_of
length-polynomial_of f = length-map-range_with_len f 0 256

pub polynomial_of-at : (f : ℕ → ℤ) (n : ℕ) → n < 256 → get_or (polynomial_of f).0 n (pos 0) ≡ f n
unfolding polynomial_of
polynomial_of-at f n h = get_or-map-range_with_len f 0 256 n n (pos 0) h (omega arith)

-- a polynomial of 256 coefficients f n is this one
pub polynomial_of-same : (f : ℕ → ℤ) (w : R) → length w.0 ≡ 256 → ((n : ℕ) → n < 256 → get_or w.0 n (pos 0) ≡ f n) → w ≡ polynomial_of f
polynomial_of-same f w long at =
    let lists : w.0 ≡ (polynomial_of f).0 = ext_get_or (pos 0) w.0 (polynomial_of f).0 (long ∙ sym (length-polynomial_of f)) (λ n h.
    let inside : n < 256 = omega (arith, h, long) in
    at n inside ∙ sym (polynomial_of-at f n inside)) in
    ap (λ (l : List ℤ). let r : R = record { 0 = l } in r) lists

pub length-vector_of : (k : ℕ) (f : ℕ → ℕ → ℤ) → length (vector_of k f) ≡ k
unfolding vector_of
length-vector_of k f = length-map-range_with_len (λ r. polynomial_of (f r)) 0 k

pub vector_of-row : (k : ℕ) (f : ℕ → ℕ → ℤ) (r : ℕ) (d : R) → r < k → get_or (vector_of k f) r d ≡ polynomial_of (f r)
unfolding vector_of
vector_of-row k f r d h = get_or-map-range_with_len (λ r. polynomial_of (f r)) 0 k r r d h (omega arith)

pub vector_of-at : (k : ℕ) (f : ℕ → ℕ → ℤ) (r n : ℕ) (d : R) → r < k → n < 256 → get_or (get_or (vector_of k f) r d).0 n (pos 0) ≡ f r n
vector_of-at k f r n d h l = ap (λ (w : R). get_or w.0 n (pos 0)) (vector_of-row k f r d h) ∙ polynomial_of-at (f r) n l

-- coefficients from -a to b make a vector of this range
pub vector_of-range : (k a b : ℕ) (f : ℕ → ℕ → ℤ) → ((r n : ℕ) → r < k → n < 256 → ((pos 0 -ℤ pos a) ≤ℤ f r n) × (f r n ≤ℤ pos b)) → IsVector k a b (vector_of k f)
vector_of-range k a b f range =
    let empty : R = record { 0 = [] } in
    let rows = length-vector_of k f in
    record {
      rows = rows;
      places = All-from_get_or (λ (w : R). length w.0 ≡ 256) (vector_of k f) empty (λ r h.
          ap (λ (w : R). length w.0) (vector_of-row k f r empty (omega (arith, h, rows))) ∙ length-polynomial_of (f r));
      range = All-from_get_or (λ (w : R). PolynomialInRange (pos 0 -ℤ pos a) (pos b) w.0) (vector_of k f) empty (λ r h.
          let inside : r < k = omega (arith, h, rows) in
          subst (λ (w : R). PolynomialInRange (pos 0 -ℤ pos a) (pos b) w.0) (sym (vector_of-row k f r empty inside))
          (All-from_get_or (λ x. ((pos 0 -ℤ pos a) ≤ℤ x) × (x ≤ℤ pos b)) (polynomial_of (f r)).0 (pos 0) (λ n l.
          let l' : n < 256 = omega (arith, l, length-polynomial_of (f r)) in
          subst (λ x. ((pos 0 -ℤ pos a) ≤ℤ x) × (x ≤ℤ pos b)) (sym (polynomial_of-at (f r) n l')) (range r n inside l'))));
    }

-- k polynomials of 256 coefficients f r n are this vector
pub vector_of-same : (k : ℕ) (f : ℕ → ℕ → ℤ) (v : List R) → length v ≡ k → ((r : ℕ) → r < k → length (get_or v r record { 0 = [] }).0 ≡ 256)
    → ((r n : ℕ) → r < k → n < 256 → coefficient_of v r n ≡ f r n) → v ≡ vector_of k f
vector_of-same k f v rows places at =
    let empty : R = record { 0 = [] } in
    ext_get_or empty v (vector_of k f) (rows ∙ sym (length-vector_of k f)) (λ r h.
    let inside : r < k = omega (arith, h, rows) in
    polynomial_of-same (f r) (get_or v r empty) (places r inside) (λ n l. at r n inside l) ∙ sym (vector_of-row k f r empty inside))

pub vector_of-entry : (k : ℕ) (f : ℕ → ℕ → ℤ) (r n : ℕ) → r < k → n < 256 → coefficient_of (vector_of k f) r n ≡ f r n
vector_of-entry k f r n h l = vector_of-at k f r n record { 0 = [] } h l

-- functions that agree at each place give one vector
pub vector_of-ext : (k : ℕ) (f g : ℕ → ℕ → ℤ) → ((r n : ℕ) → r < k → n < 256 → f r n ≡ g r n) → vector_of k f ≡ vector_of k g
vector_of-ext k f g same =
    let empty : R = record { 0 = [] } in
    vector_of-same k g (vector_of k f) (length-vector_of k f) (λ r h. ap (λ (w : R). length w.0) (vector_of-row k f r empty h) ∙ length-polynomial_of (f r)) (λ r n h l. vector_of-entry k f r n h l ∙ same r n h l)

-- coefficients from -a to b are at most m in absolute value
pub vector-within : (k a b m : ℕ) (v : List R) → a ≤ m → b ≤ m → IsVector k a b v → VectorWithin k m v
vector-within k a b m v low high is r n h l = grind (arith, ints, common_steps)
