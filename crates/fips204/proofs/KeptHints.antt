-- Where an attempt is kept, its hint gives the high bits of w back to the vector that verifying computes.
use Rattle.std.proofs.Common.{◌≡◌, ◌<◌, ◌+◌, ◌-◌, ◌*◌, ◌%◌, ℕ, List, ℤ, pos, negsuc, ◌+ℤ◌, ◌-ℤ◌, inl, inr, ap, sym, ◌∙◌, arith, ◌≤◌, [], get_or, length, nat_abs, Bool, true, false, Some, refl, subst, if◌then◌else◌, int_lt}
use Rattle.fips204.proofs.Names.{ints, cases_lt, le-leb, lt-leb, plain_matrix, row_product, R, T, vector_coefficients, matrix_product, vector_of, IsVector, coefficient_of, centred, vector_norm, IsCongruent, residue, coefficients, product, plus, minus, power2round, high_bits, low_bits, make_hint, use_hint, residue_add, residue_below, congruent_refl, congruent_of, congruent_sym, congruent_trans, congruent_mod, sum_equal, product_same, product_plus, row_of_multiple, row_of_sum, product_below, matrix_below, power2round_back, low_bits_near, vector_of-ext, vector_of-entry, vector_of-at, vector-within, ParameterSet, key_vector, high_part, low_part, response, w_minus_cs2, low_vector, ct0, hint_vector, w1_prime, challenge, PrivateParts, is_one, all_ones, centred_is, IsGamma, use_hint_of_make_hint, high_bits_stay, scaled, t1_shifted, high_vector}
use Rattle.fips204.proofs.ChallengeProducts.{Near, near_same, near_turned, near_challenge_product, norm_of_place, near_of_centred, centred_of_near}
use Rattle.fips204.proofs.RejectionChecks.{centred-own}
use Rattle.fips204.proofs.ParameterSets.{AreSetNumbers}

-- coefficient n of polynomial r of A z - c t, where A is the plain matrix and z a vector of l polynomials
abbrev pub product_difference : ℕ → List (List T) → List R → R → (ℕ → ℕ → ℕ) → ℕ → ℕ → ℕ
product_difference l a z c t r = minus (matrix_product l a (vector_coefficients z) r) (product (coefficients c.0) (t r))

-- The vector that verifying computes is the one whose high bits signing hinted at: A z - c t1 2^13 = w - c s2 + c t0.

-- ---- in the ring

-- where t = A s1 + s2 = u + v, the difference of A y + c (A s1) and c u is w - c s2 + c v
pub same_difference : (c w m s u v : ℕ → ℕ) → ((j : ℕ) → j < 256 → IsCongruent (u j + v j) (plus m s j)) → (n : ℕ) → n < 256
    → minus (plus w (product c m)) (product c u) n ≡ plus (minus w (product c s)) (product c v) n
same_difference c w m s u v h n below =
    let t : product c (plus u v) n ≡ product c (plus m s) n = product_same c (plus u v) c (plus m s) (λ j p. congruent_refl (c j)) (λ j p. congruent_trans (congruent_mod (u j + v j)) (h j p)) n below in
    let left = product_plus c u v n below in
    let right = product_plus c m s n below in
    let both : (product c u n + product c v n) % 8380417 ≡ (product c m n + product c s n) % 8380417 = sym left ∙ t ∙ right in
    cancelled (w n) (product c m n) (product c s n) (product c u n) (product c v n) both
  where
    cancelled : (a b d e f : ℕ) → (e + f) % 8380417 ≡ (b + d) % 8380417 → ((a + b) % 8380417 + 8380416 * e) % 8380417 ≡ ((a + 8380416 * d) % 8380417 + f) % 8380417
    cancelled a b d e f h = omega (arith, h)

-- ---- the row of A z

row_same : (l : ℕ) (a v u : ℕ → ℕ → ℕ) (n : ℕ) → ((k j : ℕ) → k < l → j < 256 → v k j ≡ u k j) → n < 256 → row_product l a v n ≡ row_product l a u n
unfolding row_product
row_same l a v u n h below = ap (λ x. x % 8380417) (sum_equal l (λ k. product (a k) (v k) n) (λ k. product (a k) (u k) n) (λ k p.
    product_same (a k) (v k) (a k) (u k) (λ j q. congruent_refl (a k j)) (λ j q. congruent_of (h k j p q)) n below))

-- centring keeps the residue
pub centred_residue : (x : ℤ) → residue (centred x) ≡ residue x
centred_residue x = elim (cases_lt 4190208 (residue x)) [
  | inl far ↦
      let e : pos (residue x) -ℤ pos 8380417 ≡ negsuc (8380416 - residue x) = omega (arith, ints, residue_below x) in
      rw (centred_is x, lt-leb (residue x) 4190208 far, e) (omega (arith, residue_below x))
  | inr least ↦ rw (centred_is x, le-leb (residue x) 4190208 least) (omega (arith, residue_below x))
]

-- the coefficients of z are those of y + c s1
response_coefficients : (p : ParameterSet) (sk : PrivateParts) (y : List R) (c : R) (k j : ℕ) → k < p.l → j < 256
    → vector_coefficients (response p sk y c) k j ≡ plus (vector_coefficients y k) (scaled c (vector_coefficients sk.s1) k) j
unfolding response
response_coefficients p sk y c k j h below =
    let f = λ (r n : ℕ). centred (pos (plus (vector_coefficients y r) (scaled c (vector_coefficients sk.s1) r) n)) in
    ap residue (vector_of-entry p.l f k j h below) ∙ centred_residue (pos (plus (vector_coefficients y k) (scaled c (vector_coefficients sk.s1) k) j)) ∙ omega arith

-- A z = A y + c (A s1)
pub matrix_response : (p : ParameterSet) (a : List (List T)) (sk : PrivateParts) (y : List R) (c : R) (r n : ℕ) → n < 256
    → matrix_product p.l a (vector_coefficients (response p sk y c)) r n
    ≡ plus (matrix_product p.l a (vector_coefficients y) r) (product (coefficients c.0) (matrix_product p.l a (vector_coefficients sk.s1) r)) n
unfolding matrix_product row_product
matrix_response p a sk y c r n below =
    let A = plain_matrix a r in
    let Y = vector_coefficients y in
    let S = vector_coefficients sk.s1 in
    let C = coefficients c.0 in
    row_same p.l A (vector_coefficients (response p sk y c)) (λ k. plus (Y k) (product C (S k))) n (λ k j h q. response_coefficients p sk y c k j h q) below
    ∙ row_of_sum p.l A Y (λ k. product C (S k)) n below
    ∙ ap (λ x. (row_product p.l A Y n + x) % 8380417) (row_of_multiple p.l A S C n below)

-- ---- the parts of t

-- t1 2^13 + t0 = A s1 + s2
pub parts_of_vector : (p : ParameterSet) (a : List (List T)) (s1 s2 : List R) (r j : ℕ) → r < p.k → j < 256
    → IsCongruent (t1_shifted (high_part p a s1 s2) r j + vector_coefficients (low_part p a s1 s2) r j) (key_vector p.l a s1 s2 r j)
unfolding high_part low_part
parts_of_vector p a s1 s2 r j h below =
    let t = key_vector p.l a s1 s2 r j in
    let high = λ (r n : ℕ). pos (power2round (key_vector p.l a s1 s2 r n)).0 in
    let low = λ (r n : ℕ). (power2round (key_vector p.l a s1 s2 r n)).1 in
    let one : vector_coefficients (vector_of p.k high) r j ≡ (power2round t).0 % 8380417 = ap residue (vector_of-entry p.k high r j h below) in
    let two : vector_coefficients (vector_of p.k low) r j ≡ residue (power2round t).1 = ap residue (vector_of-entry p.k low r j h below) in
    let back = power2round_back t (omega arith) in
    let whole : residue (pos ((power2round t).0 * 8192) +ℤ (power2round t).1) ≡ t % 8380417 = ap residue back in
    joined (power2round t).0 (vector_coefficients (vector_of p.k high) r j) (residue (power2round t).1) (vector_coefficients (vector_of p.k low) r j) t one two (congruent_trans (congruent_sym (residue_add (pos ((power2round t).0 * 8192)) (power2round t).1)) (congruent_trans (congruent_of whole) (congruent_mod t)))
  where
    joined : (x y z w t : ℕ) → y ≡ x % 8380417 → w ≡ z → IsCongruent (x * 8192 % 8380417 + z) t → IsCongruent (8192 * y % 8380417 + w) t
    joined x y z w t e f s = record { same = omega (arith, e, f, s.same) }

-- ---- w'

pub w_approx_is : (p : ParameterSet) (a : List (List T)) (sk : PrivateParts) (y : List R) (c : R) (r n : ℕ) → sk.t0 ≡ low_part p a sk.s1 sk.s2 → r < p.k → n < 256
    → product_difference p.l a (response p sk y c) c (t1_shifted (high_part p a sk.s1 sk.s2)) r n
    ≡ plus (w_minus_cs2 sk.s2 (matrix_product p.l a (vector_coefficients y)) c r) (scaled c (vector_coefficients sk.t0) r) n
w_approx_is p a sk y c r n low h below =
    let C = coefficients c.0 in
    let w = matrix_product p.l a (vector_coefficients y) r in
    let m = matrix_product p.l a (vector_coefficients sk.s1) r in
    let s = vector_coefficients sk.s2 r in
    let u = t1_shifted (high_part p a sk.s1 sk.s2) r in
    let v = vector_coefficients sk.t0 r in
    ap (λ x. (x + 8380416 * product C u n) % 8380417) (matrix_response p a sk y c r n below)
    ∙ same_difference C w m s u v (λ j q.
    congruent_trans (congruent_of (ap (λ t0. u j + vector_coefficients t0 r j) low)) (parts_of_vector p a sk.s1 sk.s2 r j h q)) n below

-- Where an attempt is kept, its hint gives the high bits of w back.

-- ---- sizes

size_of_near : (n x : ℕ) → Near n x → nat_abs (centred (pos x)) ≤ n
size_of_near n x p = centred_of_near n (pos x) (near_same n (congruent_sym (congruent_mod x)) p)

near_small : (m : ℕ) (x : ℤ) → nat_abs x ≤ m → Near m (residue x)
near_small m (pos n) small = inl (omega (arith, small))
near_small m (negsuc n) small = inr (omega (arith, ints, small))

-- the coefficients of a vector from -m to m
pub near_of_vector : (count m : ℕ) (v : List R) (r j : ℕ) → IsVector count m m v → r < count → j < 256 → Near m (vector_coefficients v r j)
near_of_vector count m v r j is h below = near_small m (coefficient_of v r j) (vector-within count m m m v (omega arith) (omega arith) is r j h below)

-- ---- one coefficient

-- with w, c s2 and c t0 at one place
pub hinted_place : (g beta w s t : ℕ) → IsGamma g → w < 8380417 → s < 8380417 → Near beta s → nat_abs (low_bits g ((w + 8380416 * s) % 8380417)) + beta < g → Near g t
    → use_hint g (make_hint g (8380416 * t % 8380417) (((w + 8380416 * s) % 8380417 + t) % 8380417)) (((w + 8380416 * s) % 8380417 + t) % 8380417) ≡ high_bits g w
hinted_place g beta w s t set wq sq small room near =
    let low = (w + 8380416 * s) % 8380417 in
    let x = (low + t) % 8380417 in
    let z = 8380416 * t % 8380417 in
    let minus_t : Near g z = near_same g (congruent_sym (congruent_mod (8380416 * t))) (near_turned g t near) in
    let sum : (x + z) % 8380417 ≡ low = omega arith in
    let back : (low + s) % 8380417 ≡ w = omega arith in
    use_hint_of_make_hint g z x set (omega arith) (omega arith) (size_of_near g z minus_t)
    ∙ ap (high_bits g) sum
    ∙ sym (high_bits_stay g low s beta set (omega arith) sq (size_of_near beta s small) room)
    ∙ ap (high_bits g) back

-- ---- the hint

pub hint_bit : (b : Bool) → int_lt (pos 0) (if b then pos 1 else pos 0) ≡ b
hint_bit true = refl
hint_bit false = refl

hint_at : (p : ParameterSet) (sk : PrivateParts) (w : ℕ → ℕ → ℕ) (c : R) (r n : ℕ) (d : R) → r < p.k → n < 256
    → is_one (get_or (hint_vector p sk w c) r d) n
    ≡ make_hint p.gamma2 (8380416 * scaled c (vector_coefficients sk.t0) r n % 8380417) (plus (w_minus_cs2 sk.s2 w c r) (scaled c (vector_coefficients sk.t0) r) n)
unfolding is_one hint_vector
hint_at p sk w c r n d h below =
    let b = λ (r n : ℕ). make_hint p.gamma2 (8380416 * scaled c (vector_coefficients sk.t0) r n % 8380417) (plus (w_minus_cs2 sk.s2 w c r) (scaled c (vector_coefficients sk.t0) r) n) in
    ap (int_lt (pos 0)) (vector_of-at p.k (λ r n. if b r n then pos 1 else pos 0) r n d h below) ∙ hint_bit (b r n)

-- ---- the high bits of w' with the hint

-- what is known of an attempt that is kept
pub record IsKept (p : ParameterSet) (sk : PrivateParts) (y : List R) (w : ℕ → ℕ → ℕ) (c : R) : Type 0 where
  pub response_norm : vector_norm (response p sk y c) < p.gamma1 - p.beta
  pub low_norm : vector_norm (low_vector p sk w c) < p.gamma2 - p.beta
  pub scaled_norm : vector_norm (ct0 p sk c) < p.gamma2
  pub few : length (all_ones (hint_vector p sk w c)) ≤ p.omega

gamma2_fits : (g : ℕ) → IsGamma g → (0 < g) × (g ≤ 4190208)
gamma2_fits g set = (omega (arith, set), omega (arith, set))

low_place : (p : ParameterSet) (sk : PrivateParts) (w : ℕ → ℕ → ℕ) (c : R) (r n : ℕ) → IsGamma p.gamma2 → vector_norm (low_vector p sk w c) < p.gamma2 - p.beta → r < p.k → n < 256
    → nat_abs (low_bits p.gamma2 (w_minus_cs2 sk.s2 w c r n)) + p.beta < p.gamma2
unfolding low_vector
low_place p sk w c r n set norm h below =
    let fits = gamma2_fits p.gamma2 set in
    let x = low_bits p.gamma2 (w_minus_cs2 sk.s2 w c r n) in
    let place = norm_of_place p.k (λ r n. low_bits p.gamma2 (w_minus_cs2 sk.s2 w c r n)) r n h below in
    let small = low_bits_near p.gamma2 (w_minus_cs2 sk.s2 w c r n) fits.0 (omega arith) in
    let own : nat_abs (centred x) ≡ nat_abs x = ap nat_abs (centred-own x (omega (arith, small, fits))) in
    omega (arith, place, own, norm)

scaled_place : (p : ParameterSet) (sk : PrivateParts) (c : R) (r n : ℕ) → vector_norm (ct0 p sk c) < p.gamma2 → r < p.k → n < 256 → Near p.gamma2 (scaled c (vector_coefficients sk.t0) r n)
unfolding ct0
scaled_place p sk c r n norm h below =
    let t = scaled c (vector_coefficients sk.t0) r n in
    let place = norm_of_place p.k (λ r n. pos (scaled c (vector_coefficients sk.t0) r n)) r n h below in
    near_same p.gamma2 (congruent_mod t) (near_of_centred p.gamma2 (pos t) (omega (arith, place, norm)))

-- w1' is w1
pub hinted_is_high : (p : ParameterSet) (a : List (List T)) (sk : PrivateParts) (y : List R) (front : List ℕ) (c : R)
    → AreSetNumbers p → IsVector p.k p.eta p.eta sk.s2 → sk.t0 ≡ low_part p a sk.s1 sk.s2 → challenge p.tau front ≡ Some c
    → IsKept p sk y (matrix_product p.l a (vector_coefficients y)) c
    → w1_prime p a (high_part p a sk.s1 sk.s2) (response p sk y c) (hint_vector p sk (matrix_product p.l a (vector_coefficients y)) c) c
    ≡ high_vector p (matrix_product p.l a (vector_coefficients y))
unfolding w1_prime
hinted_is_high p a sk y front c numbers second low made kept =
    let w = matrix_product p.l a (vector_coefficients y) in
    let empty : R = record { 0 = [] } in
    let h = hint_vector p sk w c in
    let v = product_difference p.l a (response p sk y c) c (t1_shifted (high_part p a sk.s1 sk.s2)) in
    vector_of-ext p.k (λ r n. pos (use_hint p.gamma2 (is_one (get_or h r empty) n) (v r n))) (λ r n. pos (high_bits p.gamma2 (w r n))) (λ r n inside below.
    let s = scaled c (vector_coefficients sk.s2) r n in
    let t = scaled c (vector_coefficients sk.t0) r n in
    let small : Near p.beta s = subst (λ b. Near b s) numbers.beta (near_challenge_product p.tau front c (vector_coefficients sk.s2 r) p.eta n made (λ j q.
    near_of_vector p.k p.eta sk.s2 r j second inside q) below) in
    ap pos (
    ap (λ b. use_hint p.gamma2 b (v r n)) (hint_at p sk w c r n empty inside below)
    ∙ ap (use_hint p.gamma2 (make_hint p.gamma2 (8380416 * scaled c (vector_coefficients sk.t0) r n % 8380417) (plus (w_minus_cs2 sk.s2 w c r) (scaled c (vector_coefficients sk.t0) r) n))) (w_approx_is p a sk y c r n low inside below)
    ∙ hinted_place p.gamma2 p.beta (w r n) s t numbers.gamma2 (matrix_below p.l a (vector_coefficients y) r n) (product_below (coefficients c.0) (vector_coefficients sk.s2 r) n) small
    (low_place p sk w c r n numbers.gamma2 kept.low_norm inside below) (scaled_place p sk c r n kept.scaled_norm inside below)))
