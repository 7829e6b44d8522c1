-- The parts of an attempt of signing, and what it depends on.
use Rattle.std.proofs.Common.{◌++◌, take, ◌≡◌, ◌<◌, ◌-◌, ◌%◌, ◌⊎◌, inl, inr, ℕ, List, ℤ, pos, nat_abs, ap, sym, ◌∙◌, refl, arith, Option, Some, None, Err}
use Rattle.fips204.proofs.Names.{All, ints, SamplingLimit, R, T, challenge, mask, PrivateParts, w1_bytes, vector_coefficients, matrix_product, vector_of, minus, residue, high_bits, high_count, low_bits, residue_below, matrix_below, high_bits_below, vector_of-ext, vector_of-range, vector-within, attempt, commitment_hash, hint_vector, passes_checks, low_vector, ParameterSet, c_tilde_length, scaled, high_vector, hint_bit, checked_attempt, VectorWithin, PolynomialInRange, coefficient_of}
use Rattle.fips204_base.proofs.Masks.{mask-range}
use Rattle.fips204.proofs.ParameterSets.{rounding-size}

-- ---- vectors of the same coefficients

-- two functions agree at each coefficient of k polynomials
abbrev pub Agree : {A : Type 0} → ℕ → (ℕ → ℕ → A) → (ℕ → ℕ → A) → Type 0
Agree k v w = (r n : ℕ) → r < k → n < 256 → v r n ≡ w r n

pub commitment-is : (p : ParameterSet) (H : List ℕ → List ℕ) (mu : List ℕ) (w1 : List R) (n : ℕ) (bytes result : List ℕ) → n ≡ c_tilde_length p → bytes ≡ w1_bytes p.gamma2 w1
    → result ≡ take n (H (mu ++ bytes)) → result ≡ commitment_hash p H mu w1
unfolding commitment_hash
commitment-is p H mu w1 n bytes result size is e = e ∙ rw (size, is) refl

-- ---- the high part

high_vector-agree : (p : ParameterSet) (v w : ℕ → ℕ → ℕ) → Agree p.k v w → high_vector p v ≡ high_vector p w
high_vector-agree p v w e = vector_of-ext p.k _ _ (λ r n h l. ap (λ x. pos (high_bits p.gamma2 x)) (e r n h l))

high_vector-is : (p : ParameterSet) (w : ℕ → ℕ → ℕ) (w1 : List R) (k : ℕ) → k ≡ p.k → w1 ≡ vector_of k (λ r n. pos (high_bits p.gamma2 (w r n))) → w1 ≡ high_vector p w
high_vector-is p w w1 k rows e = e ∙ rw rows refl

-- ---- what the rejection checks depend on

low_vector-agree : (p : ParameterSet) (sk : PrivateParts) (v w : ℕ → ℕ → ℕ) (c : R) → Agree p.k v w → low_vector p sk v c ≡ low_vector p sk w c
unfolding low_vector
low_vector-agree p sk v w c e = vector_of-ext p.k _ _ (λ r n h l. ap (λ x. low_bits p.gamma2 (minus (λ _. x) (scaled c (vector_coefficients sk.s2) r) n)) (e r n h l))

hint_vector-agree : (p : ParameterSet) (sk : PrivateParts) (v w : ℕ → ℕ → ℕ) (c : R) → Agree p.k v w → hint_vector p sk v c ≡ hint_vector p sk w c
unfolding hint_vector
hint_vector-agree p sk v w c e = vector_of-ext p.k _ _ (λ r n h l.
    ap (λ x. hint_bit p.gamma2 (minus (λ _. x) (scaled c (vector_coefficients sk.s2) r) n) (scaled c (vector_coefficients sk.t0) r n)) (e r n h l))

passes_checks-agree : (p : ParameterSet) (sk : PrivateParts) (y : List R) (v w : ℕ → ℕ → ℕ) (c : R) → Agree p.k v w → passes_checks p sk y v c ≡ passes_checks p sk y w c
unfolding passes_checks
passes_checks-agree p sk y v w c e = rw (low_vector-agree p sk v w c e, hint_vector-agree p sk v w c e) refl

-- the checks take of w the coefficients of k polynomials
pub checked_attempt-same : (p : ParameterSet) (sk : PrivateParts) (y : List R) (v w : ℕ → ℕ → ℕ) (c_tilde : List ℕ) (t : Option R) → Agree p.k v w
    → checked_attempt p sk y v c_tilde t ≡ checked_attempt p sk y w c_tilde t
checked_attempt-same p sk y v w c_tilde None e = refl
checked_attempt-same p sk y v w c_tilde (Some c) e = rw (passes_checks-agree p sk y v w c e, hint_vector-agree p sk v w c e) refl

-- ---- ranges

-- a mask is at most 524288 in absolute value
pub mask-within : (gamma1 : ℤ) (H : List ℕ → List ℕ) (rho : List ℕ) (l kappa : ℕ) (y : List R) → (gamma1 ≡ pos 131072) ⊎ (gamma1 ≡ pos 524288) → y ≡ mask (nat_abs gamma1) H rho l kappa
    → VectorWithin l 524288 y
mask-within gamma1 H rho l kappa y (inl is) e =
    let e' : y ≡ mask 131072 H rho l kappa = rw is at e in
    rw e' (vector-within l 131071 131072 524288 (mask 131072 H rho l kappa) (omega arith) (omega arith) (mask-range 131072 H rho l kappa (inl refl)))
mask-within gamma1 H rho l kappa y (inr is) e =
    let e' : y ≡ mask 524288 H rho l kappa = rw is at e in
    rw e' (vector-within l 524287 524288 524288 (mask 524288 H rho l kappa) (omega arith) (omega arith) (mask-range 524288 H rho l kappa (inr refl)))

-- coefficients of a matrix's product with a vector
abbrev pub IsProduct : ℕ → ℕ → List (List T) → List R → List R → Type 0
IsProduct k l a y w = Agree k (coefficient_of w) (λ r n. pos (matrix_product l a (vector_coefficients y) r n))

product-coefficients : (k l : ℕ) (a : List (List T)) (y w : List R) → IsProduct k l a y w → Agree k (vector_coefficients w) (matrix_product l a (vector_coefficients y))
product-coefficients k l a y w e r n h m =
    let below = matrix_below l a (vector_coefficients y) r n in
    ap residue (e r n h m) ∙ small (matrix_product l a (vector_coefficients y) r n) below
  where
    small : (x : ℕ) → x < 8380417 → x % 8380417 ≡ x
    small x h = omega (arith, h)

-- the range of a high part
high_count-range : (gamma2 k : ℕ) (f : ℕ → ℕ → ℕ) → (gamma2 ≡ 95232) ⊎ (gamma2 ≡ 261888) → ((r n : ℕ) → f r n < 8380417)
    → All (λ u. PolynomialInRange (pos 0) (pos (high_count gamma2 - 1)) u.0) (vector_of k (λ r n. pos (high_bits gamma2 (f r n))))
high_count-range gamma2 k f set residues =
    (vector_of-range k 0 (high_count gamma2 - 1) (λ r n. pos (high_bits gamma2 (f r n))) (λ r n h m.
    let below = high_bits_below gamma2 (f r n) set (residues r n) in
    (omega (arith, ints), omega (arith, ints, below)))).range

pub high-range : (gamma2 : ℤ) (k : ℕ) (w w1 : List R) → (gamma2 ≡ pos 95232) ⊎ (gamma2 ≡ pos 261888) → w1 ≡ vector_of k (λ r n. pos (high_bits (nat_abs gamma2) (vector_coefficients w r n)))
    → All (λ u. PolynomialInRange (pos 0) (pos (high_count (nat_abs gamma2) - 1)) u.0) w1
high-range gamma2 k w w1 set e = rw e (high_count-range (nat_abs gamma2) k (vector_coefficients w) (rounding-size gamma2 set) (λ r n. residue_below (coefficient_of w r n)))

-- ---- an attempt by its parts

by_parts : (p : ParameterSet) (H : List ℕ → List ℕ) (a : List (List T)) (sk : PrivateParts) (mu rho'' : List ℕ) (kappa : ℕ) (y : List R) (w : ℕ → ℕ → ℕ) (w1 : List R) (c_tilde : List ℕ)
    → y ≡ mask p.gamma1 H rho'' p.l kappa → Agree p.k w (matrix_product p.l a (vector_coefficients y)) → w1 ≡ high_vector p w → c_tilde ≡ commitment_hash p H mu w1
    → attempt p H a sk mu rho'' kappa ≡ checked_attempt p sk y w c_tilde (challenge p.tau (H c_tilde))
unfolding attempt
by_parts p H a sk mu rho'' kappa y w w1 c_tilde masked product high committed =
    let product' : Agree p.k w (matrix_product p.l a (vector_coefficients (mask p.gamma1 H rho'' p.l kappa))) = rw masked at product in
    let whole : c_tilde ≡ commitment_hash p H mu (high_vector p (matrix_product p.l a (vector_coefficients (mask p.gamma1 H rho'' p.l kappa)))) =
    committed ∙ ap (commitment_hash p H mu) (high ∙ high_vector-agree p w (matrix_product p.l a (vector_coefficients (mask p.gamma1 H rho'' p.l kappa))) product') in
    rw (masked, whole) (sym (checked_attempt-same p sk (mask p.gamma1 H rho'' p.l kappa) w (matrix_product p.l a (vector_coefficients (mask p.gamma1 H rho'' p.l kappa))) _ _ product'))

-- an attempt is what the checks make of its mask, its product and its challenge
pub attempt-is : (p : ParameterSet) (H : List ℕ → List ℕ) (a : List (List T)) (sk : PrivateParts) (mu rho'' : List ℕ) (kappa k l : ℕ) (y w w1 : List R) (c_tilde : List ℕ) → k ≡ p.k → l ≡ p.l
    → y ≡ mask p.gamma1 H rho'' l kappa → IsProduct k l a y w → w1 ≡ vector_of k (λ r n. pos (high_bits p.gamma2 (vector_coefficients w r n))) → c_tilde ≡ commitment_hash p H mu w1
    → attempt p H a sk mu rho'' kappa ≡ checked_attempt p sk y (vector_coefficients w) c_tilde (challenge p.tau (H c_tilde))
attempt-is p H a sk mu rho'' kappa k l y w w1 c_tilde rows columns masked product high committed =
    let product' : IsProduct p.k p.l a y w = rw (rows, columns) at product in
    by_parts p H a sk mu rho'' kappa y (vector_coefficients w) w1 c_tilde (masked ∙ ap (λ n. mask p.gamma1 H rho'' n kappa) columns) (product-coefficients p.k p.l a y w product')
    (high_vector-is p (vector_coefficients w) w1 k rows high) committed

-- an attempt without a challenge is an error
pub checked_attempt-limit : (p : ParameterSet) (sk : PrivateParts) (y : List R) (w : ℕ → ℕ → ℕ) (c_tilde : List ℕ) (t : Option R) → t ≡ None → checked_attempt p sk y w c_tilde t ≡ Err SamplingLimit
checked_attempt-limit p sk y w c_tilde t e = rw e refl
