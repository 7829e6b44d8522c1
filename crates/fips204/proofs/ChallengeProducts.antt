-- A product with a challenge is small, coefficient by coefficient and in its norm.
use Rattle.std.proofs.Common.{◌≡◌, ◌≢◌, ◌⊎◌, inl, inr, ◌<◌, ◌≤◌, ◌+◌, ◌-◌, ◌*◌, ◌%◌, ℕ, List, [], ◌∷◌, pos, ◌+ℤ◌, get_or, length, take, Some, suc, refl, ap, sym, subst, ◌∙◌, arith, if◌then◌else◌, zero, ℤ, nat_abs, nat_eq, max, fold}
use Rattle.fips204.proofs.Names.{cases_Bool, cases_lt, ne_eqb, eq-eqb, lt-ltb, le-ltb, le-leb, lt-leb, sign_of, shifted, R, signed_sum, challenge, bits, product, IsCongruent, residue, coefficients, sum_below, centred, norm, vector_norm, polynomial_of, vector_of, challenge_places, length-challenge_places, centred_is, residue-again, residue_add, residue_below, congruent_refl, congruent_of, congruent_sym, congruent_trans, congruent_mod, congruent_mul, sum_same, sum_equal, sum_zero, sum_one, sum_add, polynomial_of-at, length-polynomial_of, length-vector_of, vector_of-row, vector_of-at, le-max_left, le-max_right, max-le, ints, get_or_past, ChallengeProductIsSmall}
use Rattle.fips204.proofs.Ranges.{challenge-sum}

-- A product with a challenge is small: each of its coefficients is a sum of at most tau coefficients, each with a sign.

-- ---- numbers near a multiple of q

-- x is at most n away from a multiple of q
abbrev pub Near : ℕ → ℕ → Type 0
Near n x = (x % 8380417 ≤ n) ⊎ (8380417 ≤ x % 8380417 + n)

pub near_same : (n : ℕ) {x y : ℕ} → IsCongruent x y → Near n x → Near n y
near_same n s p = subst (λ r. (r ≤ n) ⊎ (8380417 ≤ r + n)) s.same p

pub near_none : (n : ℕ) → Near n 0
near_none n = inl (omega arith)

pub near_add : (a b x y : ℕ) → Near a x → Near b y → Near (a + b) (x + y)
near_add a b x y p q = elim (cases_lt (a + b) ((x + y) % 8380417)) [
  | inl far ↦ inr (omega (arith, p, q, far))
  | inr least ↦ inl least
]

pub near_turned : (n x : ℕ) → Near n x → Near n (8380416 * x)
near_turned n x p = elim (cases_lt n (8380416 * x % 8380417)) [
  | inl far ↦ inr (omega (arith, p, far))
  | inr least ↦ inl least
]

near_sign : (n bit x : ℕ) → Near n x → Near n (residue (sign_of bit) * x)
near_sign n bit x p = elim (cases_Bool (nat_eq bit 1)) [
  | inl set ↦ rw set (near_turned n x p)
  | inr not ↦ rw not (near_same n (congruent_of (let e : x ≡ 1 * x = omega arith in e)) p)
]

-- ---- a sum of signed coefficients

-- the term of one place
other_term : (place bit i x : ℕ) → place ≢ i → IsCongruent (residue (if nat_eq place i then sign_of bit else pos 0) * x) 0
other_term place bit i x h = rw (ne_eqb place i h) (congruent_of (let e : 0 * x ≡ 0 = omega arith in e))

one_place : (place bit n : ℕ) (f : ℕ → ℕ) → ((i : ℕ) → i < 256 → Near n (f i)) → Near n (sum_below 256 (λ i. residue (if nat_eq place i then sign_of bit else pos 0) * f i))
one_place place bit n f h =
    let term = λ (i : ℕ). residue (if nat_eq place i then sign_of bit else pos 0) * f i in
    elim (cases_lt place 256) [
      | inl inside ↦
          let here : term place ≡ residue (sign_of bit) * f place = rw (eq-eqb place place refl) refl in
          near_same n (congruent_sym (sum_one 256 place term inside (λ i p apart. other_term place bit i (f i) (λ e. apart (sym e)))))
          (near_same n (congruent_of (sym here)) (near_sign n bit (f place) (h place inside)))
      | inr outside ↦ near_same n (congruent_sym (sum_zero 256 term (λ i p. other_term place bit i (f i) (λ e. omega (arith, e, outside, p))))) (near_none n)
    ]

spread : (s t u : ℕ) → (s + t) * u ≡ s * u + t * u
spread s t u = omega arith

pub near_signed_sum : (ps sign_bits : List ℕ) (n : ℕ) (f : ℕ → ℕ) → ((i : ℕ) → i < 256 → Near n (f i)) → Near (length ps * n) (sum_below 256 (λ i. residue (signed_sum ps sign_bits i) * f i))
unfolding signed_sum
near_signed_sum [] sign_bits n f h = near_same (0 * n) (congruent_sym (sum_zero 256 (λ i. 0 * f i) (λ i p. congruent_of (let e : 0 * f i ≡ 0 = omega arith in e)))) (near_none (0 * n))
near_signed_sum (place ∷ ps) [] n f h = near_same (length (place ∷ ps) * n) (congruent_sym (sum_zero 256 (λ i. 0 * f i) (λ i p. congruent_of (let e : 0 * f i ≡ 0 = omega arith in e)))) (near_none (length (place ∷ ps) * n))
near_signed_sum (place ∷ ps) (bit ∷ sign_bits) n f h =
    let one = λ (i : ℕ). if nat_eq place i then sign_of bit else pos 0 in
    let rest = λ (i : ℕ). signed_sum ps sign_bits i in
    let whole = λ (i : ℕ). residue (one i +ℤ rest i) * f i in
    let first = λ (i : ℕ). residue (one i) * f i in
    let later = λ (i : ℕ). residue (rest i) * f i in
    let split : IsCongruent (sum_below 256 whole) (sum_below 256 first + sum_below 256 later) =
    congruent_trans (sum_same 256 whole (λ i. first i + later i) (λ i p.
    congruent_trans (congruent_mul (residue_add (one i) (rest i)) (congruent_refl (f i))) (congruent_of (spread (residue (one i)) (residue (rest i)) (f i)))))
    (congruent_of (sum_add 256 first later)) in
    let size : n + length ps * n ≡ suc (length ps) * n = omega arith in
    subst (λ m. Near m (sum_below 256 whole)) size
    (near_same (n + length ps * n) (congruent_sym split) (near_add n (length ps * n) (sum_below 256 first) (sum_below 256 later) (one_place place bit n f h) (near_signed_sum ps sign_bits n f h)))

-- ---- the product with a challenge

near_shifted : (b : ℕ → ℕ) (i n m : ℕ) → i < 256 → n < 256 → ((j : ℕ) → j < 256 → Near m (b j)) → Near m (shifted b i n)
unfolding shifted
near_shifted b i n m inside below h = elim (cases_lt n i) [
  | inl less ↦ rw (lt-ltb n i less) (near_turned m (b (256 + n - i)) (h (256 + n - i) (omega arith)))
  | inr least ↦ rw (le-ltb n i least) (h (n - i) (omega arith))
]

near_sum : (c : R) (ps sign_bits : List ℕ) (b : ℕ → ℕ) (n m : ℕ) → polynomial_of (signed_sum ps sign_bits) ≡ c → ((j : ℕ) → j < 256 → Near m (b j)) → n < 256
    → Near (length ps * m) (product (coefficients c.0) b n)
unfolding product shifted
near_sum c ps sign_bits b n m is h below =
    let f = λ (i : ℕ). shifted b i n in
    let terms : sum_below 256 (λ i. residue (signed_sum ps sign_bits i) * f i) ≡ sum_below 256 (λ i. coefficients c.0 i * f i) =
    sum_equal 256 (λ i. residue (signed_sum ps sign_bits i) * f i) (λ i. coefficients c.0 i * f i) (λ i p.
    ap (λ x. residue x * f i) (sym (polynomial_of-at (signed_sum ps sign_bits) i p)) ∙ ap (λ (w : R). residue (get_or w.0 i (pos 0)) * f i) is) in
    near_same (length ps * m) (congruent_sym (congruent_mod (sum_below 256 (λ i. coefficients c.0 i * f i))))
    (near_same (length ps * m) (congruent_of terms) (near_signed_sum ps sign_bits m f (λ i p. near_shifted b i n m p below h)))

-- where all coefficients of b are at most m from a multiple of q, those of c b are at most tau m
pub near_challenge_product : (tau : ℕ) (front : List ℕ) (c : R) (b : ℕ → ℕ) (m n : ℕ) → challenge tau front ≡ Some c → ((j : ℕ) → j < 256 → Near m (b j)) → n < 256
    → Near (tau * m) (product (coefficients c.0) b n)
near_challenge_product tau front c b m n e h below =
    subst (λ t. Near (t * m) (product (coefficients c.0) b n)) (length-challenge_places tau front c e)
    (near_sum c (challenge_places tau front) (bits 8 (take 8 front)) b n m (challenge-sum tau front c e) h below)

-- A norm is at most n exactly where each coefficient is at most n from a multiple of q.

-- ---- one number

pub near_of_centred : (n : ℕ) (x : ℤ) → nat_abs (centred x) ≤ n → Near n (residue x)
near_of_centred n x h = elim (cases_lt 4190208 (residue x)) [
  | inl far ↦
      let e = rw (centred_is x, lt-leb (residue x) 4190208 far) at h in
      inr (omega (arith, ints, e, residue-again x, residue_below x))
  | inr least ↦
      let e = rw (centred_is x, le-leb (residue x) 4190208 least) at h in
      inl (omega (arith, ints, e, residue-again x))
]

pub centred_of_near : (n : ℕ) (x : ℤ) → Near n (residue x) → nat_abs (centred x) ≤ n
centred_of_near n x near = elim (cases_lt 4190208 (residue x)) [
  | inl far ↦ rw (centred_is x, lt-leb (residue x) 4190208 far) (omega (arith, ints, near, far, residue-again x, residue_below x))
  | inr least ↦ rw (centred_is x, le-leb (residue x) 4190208 least) (omega (arith, ints, near, least, residue-again x))
]

-- ---- the largest of a list

module _ {A : Type 0} (f : A → ℕ) where
  abbrev most : ℕ → List A → ℕ
  most = fold (λ most x. max most (f x))

  start_within : (xs : List A) (a : ℕ) → a ≤ most a xs
  start_within [] a = omega arith
  start_within (x ∷ xs) a = let first = le-max_left a (f x) in let later = start_within xs (max a (f x)) in omega (arith, first, later)

  each_within : (xs : List A) (a i : ℕ) (d : A) → i < length xs → f (get_or xs i d) ≤ most a xs
  each_within [] a i d h = absurd (omega (arith, h))
  each_within (x ∷ xs) a zero d h = let first = le-max_right a (f x) in let later = start_within xs (max a (f x)) in omega (arith, first, later)
  each_within (x ∷ xs) a (suc i) d h = each_within xs (max a (f x)) i d (omega (arith, h))

  most_within : (xs : List A) (a n : ℕ) (d : A) → a ≤ n → ((i : ℕ) → i < length xs → f (get_or xs i d) ≤ n) → most a xs ≤ n
  most_within [] a n d h each = h
  most_within (x ∷ xs) a n d h each =
      most_within xs (max a (f x)) n d (max-le h (each 0 (omega arith))) (λ i l. each (suc i) (omega (arith, l)))

-- ---- norms

pub norm_at : (w : List ℤ) (n : ℕ) (d : ℤ) → n < length w → nat_abs (centred (get_or w n d)) ≤ norm w
norm_at w n d h = each_within (λ x. nat_abs (centred x)) w 0 n d h

pub norm_within : (w : List ℤ) (m : ℕ) → ((n : ℕ) → n < length w → nat_abs (centred (get_or w n (pos 0))) ≤ m) → norm w ≤ m
norm_within w m each = most_within (λ x. nat_abs (centred x)) w 0 m (pos 0) (omega arith) each

pub vector_norm_at : (v : List R) (r n : ℕ) (d : R) → r < length v → n < length (get_or v r d).0 → nat_abs (centred (get_or (get_or v r d).0 n (pos 0))) ≤ vector_norm v
vector_norm_at v r n d h l =
    let row = each_within (λ (w : R). norm w.0) v 0 r d h in
    let place = norm_at (get_or v r d).0 n (pos 0) l in
    omega (arith, row, place)

-- The norm of a product with a challenge.

-- the coefficients of a polynomial, and the zeros after them, are as near to a multiple of q as its norm says
pub near_of_norm : (w : List ℤ) (m n : ℕ) → norm w ≤ m → Near m (coefficients w n)
near_of_norm w m n h = elim (cases_lt n (length w)) [
  | inl inside ↦
      let here = norm_at w n (pos 0) inside in
      near_of_centred m (get_or w n (pos 0)) (omega (arith, h, here))
  | inr outside ↦ subst (λ x. Near m (residue x)) (sym (get_or_past w n (pos 0) outside)) (near_none m)
]

pub challenge_product_is_small : ChallengeProductIsSmall
challenge_product_is_small tau eta front c s e h =
    let f = λ (n : ℕ). pos (product (coefficients c.0) (coefficients s.0) n) in
    norm_within (polynomial_of f).0 (tau * eta) (λ n l.
    let inside : n < 256 = omega (arith, l, length-polynomial_of f) in
    subst (λ x. nat_abs (centred x) ≤ tau * eta) (sym (polynomial_of-at f n inside))
    (centred_of_near (tau * eta) (f n) (near_residue (tau * eta) (product (coefficients c.0) (coefficients s.0) n)
    (near_challenge_product tau front c (coefficients s.0) eta n e (λ j below. near_of_norm s.0 eta j h) inside))))
  where
    near_residue : (m x : ℕ) → Near m x → Near m (residue (pos x))
    near_residue m x p = let again : x % 8380417 % 8380417 ≡ x % 8380417 = omega arith in rw again p

-- a coefficient of a vector is within the norm
pub norm_of_place : (k : ℕ) (f : ℕ → ℕ → ℤ) (r n : ℕ) → r < k → n < 256 → nat_abs (centred (f r n)) ≤ vector_norm (vector_of k f)
norm_of_place k f r n h below =
    let empty : R = record { 0 = [] } in
    let rows = length-vector_of k f in
    let long : length (get_or (vector_of k f) r empty).0 ≡ 256 = ap (λ (w : R). length w.0) (vector_of-row k f r empty h) ∙ length-polynomial_of (f r) in
    subst (λ x. nat_abs (centred x) ≤ vector_norm (vector_of k f)) (vector_of-at k f r n empty h below)
    (vector_norm_at (vector_of k f) r n empty (omega (arith, h, rows)) (omega (arith, below, long)))
