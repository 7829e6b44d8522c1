-- The vectors of an attempt, their norms and hints, and which attempts are kept, check by check.
use Rattle.std.proofs.Common.{◌≡◌, ◌⊎◌, inl, inr, ℕ, ℤ, pos, negsuc, ◌+◌, ◌-◌, ◌*◌, ◌%◌, ◌<◌, ◌≤◌, ◌+ℤ◌, ◌-ℤ◌, ◌≤ℤ◌, List, length, true, false, arith, refl, ap, sym, ◌∙◌, Bool, ◌&&◌, Ok, Some, None, nat_abs, nat_lt, nat_le, if◌then◌else◌}
use Rattle.std.proofs.Math.Bool.{and_comm}
use Rattle.fips204.proofs.Names.{cases_lt, le-leb, lt-leb, ltb-true, ints, R, centred, vector_norm, residue, VectorInRange, coefficient_of, vector_of, IsVector, vector_coefficients, AreSameModQ, product, plus, minus, low_bits, make_hint, centred_is, residue_add, residue_sub, residue_is, residue_below, low_bits_near, product_below, multiple-same, vector_of-ext, vector_of-entry, vector_of-range, PrivateParts, signature_bytes, all_ones, Params, response, low_vector, ct0, hint_vector, passes_checks, w_minus_cs2, ParameterSet, set_of, IsFactorOf, scaled, multiple, y_plus_cs1, hint_bit, checked_attempt}
use Rattle.fips204.proofs.ChallengeProducts.{norm_of_place}
use Rattle.fips204.proofs.ParameterSets.{IsKnown, limits}

-- Sums, norms and hints of an attempt's vectors.

centred-same : (x y : ℤ) → residue x ≡ residue y → centred x ≡ centred y
unfolding centred
centred-same x y e = rw e refl

pub centred-small : (x : ℤ) → nat_abs (centred x) ≤ 4190208
centred-small x =
    let below = residue_below x in
    elim (cases_lt 4190208 (residue x)) [
      | inl above ↦ rw (centred_is x, lt-leb (residue x) 4190208 above) (omega (arith, ints))
      | inr least ↦ rw (centred_is x, le-leb (residue x) 4190208 least) (omega arith)
    ]

-- a small integer is its own centred value
pub centred-own : (x : ℤ) → nat_abs x ≤ 4190208 → centred x ≡ x
centred-own x h =
    let below = residue_below x in
    let same = (residue_is x).same in
    elim (cases_lt 4190208 (residue x)) [
      | inl above ↦ rw (centred_is x, lt-leb (residue x) 4190208 above) (omega (arith, ints, same))
      | inr least ↦ rw (centred_is x, le-leb (residue x) 4190208 least) (omega (arith, ints, same))
    ]

pub centred-again : (x : ℤ) → centred (centred x) ≡ centred x
centred-again x = centred-own (centred x) (centred-small x)

residue-sum : (x y : ℤ) → residue (x +ℤ y) ≡ (residue x + residue y) % 8380417
residue-sum x y =
    let below = residue_below (x +ℤ y) in
    omega (arith, below, (residue_add x y).same)

pub centred-sum : (x y : ℤ) → centred (x +ℤ y) ≡ centred (pos ((residue x + residue y) % 8380417))
centred-sum x y = centred-same (x +ℤ y) (pos ((residue x + residue y) % 8380417)) (let e = residue-sum x y in omega (arith, e))

pub residue-difference : (x y : ℤ) → residue (x -ℤ y) ≡ (residue x + 8380416 * residue y) % 8380417
residue-difference x y =
    let below = residue_below (x -ℤ y) in
    omega (arith, below, (residue_sub x y).same)

-- ---- products

pub product-own : (a b : ℕ → ℕ) (n : ℕ) (x : ℤ) → x ≡ pos (product a b n) → residue x ≡ product a b n
product-own a b n x e = let below = product_below a b n in rw e (omega (arith, below))

-- ---- low bits
pub low_bits-small : (g : ℤ) (x : ℤ) → (g ≡ pos 95232) ⊎ (g ≡ pos 261888) → nat_abs (low_bits (nat_abs g) (residue x)) ≤ 8380416
low_bits-small g x (inl e) = let near = low_bits_near 95232 (residue x) (omega arith) (residue_below x) in rw e (omega (arith, near))
low_bits-small g x (inr e) = let near = low_bits_near 261888 (residue x) (omega arith) (residue_below x) in rw e (omega (arith, near))

-- ---- hints

-- MakeHint of -t and x + t, in integers and in residues
pub hint_bit-is : (g : ℕ) (x t : ℤ) (b : Bool) → b ≡ make_hint g (residue (pos 0 -ℤ t)) (residue (x +ℤ t))
    → (if b then pos 1 else pos 0) ≡ hint_bit g (residue x) (residue t)
hint_bit-is g x t b e =
    let turned : residue (pos 0 -ℤ t) ≡ 8380416 * residue t % 8380417 = residue-difference (pos 0) t ∙ nothing (8380416 * residue t) in
    ap (λ c. if c then pos 1 else pos 0) (e ∙ rw (turned, residue-sum x t) refl)
  where
    nothing : (n : ℕ) → (0 + n) % 8380417 ≡ n % 8380417
    nothing n = omega arith

-- Which attempts are kept, test by test.

-- an attempt by the results of its four tests, in the order of the code
pub by_tests : (p : ParameterSet) (sk : PrivateParts) (y : List R) (w : ℕ → ℕ → ℕ) (c_tilde : List ℕ) (c : R) {first second third fourth : Bool}
    → first ≡ nat_lt (vector_norm (low_vector p sk w c)) (p.gamma2 - p.beta) → second ≡ nat_lt (vector_norm (response p sk y c)) (p.gamma1 - p.beta)
    → third ≡ nat_lt (vector_norm (ct0 p sk c)) p.gamma2 → fourth ≡ nat_le (length (all_ones (hint_vector p sk w c))) p.omega
    → Ok (if first && second && third && fourth then Some (signature_bytes p.gamma1 p.omega c_tilde (response p sk y c) (hint_vector p sk w c)) else None) ≡ checked_attempt p sk y w c_tilde (Some c)
unfolding passes_checks
by_tests p sk y w c_tilde c {first} {second} e f h i = rw (and_comm first second, e, f, h, i) refl

-- ---- the vectors of an attempt

-- the multiple of what is the same modulo q
pub multiple-equal : (d c : R) (out u v : List R) (k : ℕ) → IsFactorOf d c → AreSameModQ k u v → out ≡ multiple k d u → out ≡ multiple k c v
multiple-equal d c out u v k same equal is = is ∙ vector_of-ext k _ _ (λ r n h l. ap pos (multiple-same d c u v k r n same equal h l))

-- its coefficients
multiple-at : (k : ℕ) (c : R) (v out : List R) (r n : ℕ) → out ≡ multiple k c v → r < k → n < 256 → vector_coefficients out r n ≡ scaled c (vector_coefficients v) r n
multiple-at k c v out r n e h l =
    product-own _ _ n _ (ap (λ w. coefficient_of w r n) e ∙ vector_of-entry k (λ r n. pos (scaled c (vector_coefficients v) r n)) r n h l)

pub response-is : (p : ParameterSet) (sk : PrivateParts) (y out z : List R) (c : R) (k : ℕ) → k ≡ p.l → out ≡ multiple k c sk.s1
    → z ≡ vector_of k (λ r n. centred (pos (plus (vector_coefficients y r) (vector_coefficients out r) n))) → z ≡ response p sk y c
unfolding response
response-is p sk y out z c k size made e =
    e ∙ vector_of-ext k _ (λ r n. centred (pos (y_plus_cs1 sk.s1 y c r n))) (λ r n h l. ap (λ (x : ℕ). centred (pos ((vector_coefficients y r n + x) % 8380417))) (multiple-at k c sk.s1 out r n made h l))
    ∙ rw size refl

-- v is w - c s2
abbrev pub IsDifference : ℕ → PrivateParts → (ℕ → ℕ → ℕ) → R → List R → Type 0
IsDifference k sk w c v = (r n : ℕ) → r < k → n < 256 → vector_coefficients v r n ≡ w_minus_cs2 sk.s2 w c r n

pub difference-is : (k : ℕ) (sk : PrivateParts) (w : ℕ → ℕ → ℕ) (c : R) (out v : List R) → out ≡ multiple k c sk.s2
    → ((r n : ℕ) → r < k → n < 256 → vector_coefficients v r n ≡ minus (w r) (vector_coefficients out r) n) → IsDifference k sk w c v
difference-is k sk w c out v made e r n h l = e r n h l ∙ ap (λ (x : ℕ). (w r n + 8380416 * x) % 8380417) (multiple-at k c sk.s2 out r n made h l)

pub low-is : (p : ParameterSet) (sk : PrivateParts) (w : ℕ → ℕ → ℕ) (c : R) (v : List R) (k : ℕ) → k ≡ p.k → IsDifference k sk w c v
    → vector_of k (λ r n. low_bits p.gamma2 (vector_coefficients v r n)) ≡ low_vector p sk w c
unfolding low_vector
low-is p sk w c v k size e = vector_of-ext k _ _ (λ r n h l. ap (low_bits p.gamma2) (e r n h l)) ∙ rw size refl

pub ct0-is : (p : ParameterSet) (sk : PrivateParts) (c : R) (t : List R) (k : ℕ) → k ≡ p.k → t ≡ multiple k c sk.t0 → t ≡ ct0 p sk c
unfolding ct0
ct0-is p sk c t k size e = e ∙ rw size refl

pub hint-is : (p : ParameterSet) (sk : PrivateParts) (w : ℕ → ℕ → ℕ) (c : R) (v t h : List R) (k : ℕ) → k ≡ p.k → IsDifference k sk w c v → t ≡ multiple k c sk.t0
    → h ≡ vector_of k (λ r n. hint_bit p.gamma2 (vector_coefficients v r n) (vector_coefficients t r n)) → h ≡ hint_vector p sk w c
unfolding hint_vector
hint-is p sk w c v t h k size e made is =
    is
    ∙ vector_of-ext k _ (λ r n. hint_bit p.gamma2 (w_minus_cs2 sk.s2 w c r n) (scaled c (vector_coefficients sk.t0) r n)) (λ r n q l. rw (e r n q l, multiple-at k c sk.t0 t r n made q l) refl)
    ∙ rw size refl

-- ---- ranges

-- an integer from 1 - g to g
within_range : (g : ℕ) (x : ℤ) → nat_abs x < g → ((pos 0 -ℤ pos (g - 1)) ≤ℤ x) × (x ≤ℤ pos g)
within_range g (pos n) h = (omega (arith, ints, h), omega (arith, ints, h))
within_range g (negsuc n) h = (omega (arith, ints, h), omega (arith, ints, h))

-- coefficients of a centred vector whose norm is below a bound
pub centred-range : (g b k : ℕ) (f : ℕ → ℕ → ℤ) → b ≤ g → vector_norm (vector_of k (λ r n. centred (f r n))) < b
    → IsVector k (g - 1) g (vector_of k (λ r n. centred (f r n)))
centred-range g b k f most small = vector_of-range k (g - 1) g (λ r n. centred (f r n)) (λ r n h l.
    let place = norm_of_place k (λ r n. centred (f r n)) r n h l in
    let same = ap nat_abs (centred-again (f r n)) in
    within_range g (centred (f r n)) (omega (arith, place, same, small, most)))

-- coefficients of a response
pub response-range : (p : Params) (sk : PrivateParts) (y z : List R) (c : R) (gamma1 : ℤ) → IsKnown p → gamma1 ≡ p.gamma1 → z ≡ response (set_of p) sk y c
    → true ≡ nat_lt (vector_norm z) (nat_abs p.gamma1 - nat_abs p.beta) → VectorInRange (pos 0 -ℤ (gamma1 -ℤ pos 1)) gamma1 z
unfolding response
response-range p sk y z c gamma1 known m e small =
    let f = λ (r n : ℕ). pos (y_plus_cs1 sk.s1 y c r n) in
    let norm = ltb-true (vector_norm z) (nat_abs p.gamma1 - nat_abs p.beta) (sym small) in
    elim (limits p known).mask [
      | inl is ↦ rw (e, m, is) (centred-range 131072 (131072 - nat_abs p.beta) p.l f (omega arith) (rw (e, is) at norm)).range
      | inr is ↦ rw (e, m, is) (centred-range 524288 (524288 - nat_abs p.beta) p.l f (omega arith) (rw (e, is) at norm)).range
    ]

-- coefficients of a hint
bit_range : (b : Bool) → ((pos 0 -ℤ pos 0) ≤ℤ (if b then pos 1 else pos 0)) × ((if b then pos 1 else pos 0) ≤ℤ pos 1)
bit_range true = (omega (arith, ints), omega (arith, ints))
bit_range false = (omega (arith, ints), omega (arith, ints))

pub hint-vector : (k g : ℕ) (v t : ℕ → ℕ → ℕ) → IsVector k 0 1 (vector_of k (λ r n. hint_bit g (v r n) (t r n)))
hint-vector k g v t = vector_of-range k 0 1 (λ r n. hint_bit g (v r n) (t r n)) (λ r n h l. bit_range (make_hint g (8380416 * t r n % 8380417) ((v r n + t r n) % 8380417)))

pub hint-range : (k g : ℕ) (v t : ℕ → ℕ → ℕ) (h : List R) → h ≡ vector_of k (λ r n. hint_bit g (v r n) (t r n)) → VectorInRange (pos 0) (pos 1) h
hint-range k g v t h e = rw e (hint-vector k g v t).range
