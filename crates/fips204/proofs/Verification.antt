-- Verifying: w1' as a vector, and what a signature's parts have to keep.
use Rattle.std.proofs.Common.{◌≡◌, ◌<◌, ◌≤◌, ◌⊎◌, ◌+◌, ◌-◌, ◌*◌, ◌%◌, ℕ, List, [], pos, nat_abs, get_or, length, ap, sym, subst, ◌∙◌, arith, Bool, Some, true, false, inl, inr, refl, IsTrue, ℤ, zero, suc, negsuc, ◌≤ℤ◌, ◌++◌, take, int_lt, ◌↔◌}
use Rattle.fips204.proofs.Names.{All, cases_Bool, ints, mod_below, R, T, vector_norm, residue, coefficients, challenge, sampled_matrix, PublicParts, IsSignature, is_one, w1_bytes, IsVector, vector_coefficients, matrix_product, vector_of, VectorWithin, PolynomialInRange, coefficient_of, product, minus, use_hint, high_bits, low_bits, high_count, high_bits_below, product_same, congruent_of, congruent_refl, residue_below, vector_of-ext, vector_of-range, vector-within, same_signature, w1_prime, Accepts, Verifies, t1_shifted, hinted, AreShifted, OpensTo, commitment_hash, Params, ParameterSet, c_tilde_length, set_of}
use Rattle.std.specs.declared.option.Option.{Option}
use Rattle.fips204.proofs.ParameterSets.{IsKnown, limits, mask-size}
use Rattle.fips204.proofs.RefusedCalls.{same_some}

-- ---- w1'

some_values : (g : ℕ) → (g ≡ 95232) ⊎ (g ≡ 261888) → 0 < high_count g
some_values g (inl e) = rw e (omega arith)
some_values g (inr e) = rw e (omega arith)

pub use_hint-below : (g r : ℕ) (h : Bool) → (g ≡ 95232) ⊎ (g ≡ 261888) → r < 8380417 → use_hint g h r < high_count g
unfolding use_hint
use_hint-below g r false set below = high_bits_below g r set below
use_hint-below g r true set below = elim (cases_Bool (int_lt (pos 0) (low_bits g r))) [
  | inl up ↦ rw up (mod_below (high_bits g r + 1) (high_count g) (some_values g set))
  | inr down ↦ rw down (mod_below (high_bits g r + (high_count g - 1)) (high_count g) (some_values g set))
]

bit : (x : ℤ) → pos 0 ≤ℤ x → x ≤ℤ pos 1 → (x ≡ pos 0) ⊎ (x ≡ pos 1)
bit (pos zero) low high = inl refl
bit (pos (suc zero)) low high = inr refl
bit (pos (suc (suc n))) low high = absurd (omega (arith, ints, high))
bit (negsuc n) low high = absurd (omega (arith, ints, low))

-- a hint has zeros and ones
pub hint-bit : (k : ℕ) (h : List R) (r n : ℕ) → IsVector k 0 1 h → r < k → n < 256 → (coefficient_of h r n ≡ pos 0) ⊎ (coefficient_of h r n ≡ pos 1)
hint-bit k h r n is l m =
    let empty : R = record { 0 = [] } in
    let inside : r < length h = omega (arith, l, is.rows) in
    let range = is.range r empty inside n (pos 0) (omega (arith, m, is.places r empty inside)) in
    bit (coefficient_of h r n) (omega (arith, ints, range.0)) range.1

-- UseHint at each place of what is the same
pub hinted-same : (p : ParameterSet) (h : List R) (v w : ℕ → ℕ → ℕ) (k : ℕ) → k ≡ p.k → ((r n : ℕ) → r < k → n < 256 → v r n ≡ w r n) → hinted p h v ≡ hinted p h w
hinted-same p h v w k rows same = vector_of-ext p.k _ _ (λ r n l m. ap (λ x. pos (use_hint p.gamma2 (is_one (get_or h r record { 0 = [] }) n) x)) (same r n (rw rows l) m))

-- what is written as A z - c t1 2^13
pub hinted-written : (p : ParameterSet) (h w before after t : List R) (c d : R) (k : ℕ) → k ≡ p.k
    → ((j : ℕ) → j < 256 → coefficients d.0 j ≡ coefficients c.0 j)
    → ((r n : ℕ) → r < k → n < 256 → vector_coefficients after r n ≡ minus (vector_coefficients before r) (product (coefficients d.0) (vector_coefficients t r)) n)
    → ((r n : ℕ) → r < k → n < 256 → coefficient_of w r n ≡ pos (vector_coefficients after r n))
    → hinted p h (vector_coefficients w) ≡ hinted p h (λ r. minus (vector_coefficients before r) (product (coefficients c.0) (vector_coefficients t r)))
hinted-written p h w before after t c d k rows same made written =
    hinted-same p h (vector_coefficients w) (λ r. minus (vector_coefficients before r) (product (coefficients c.0) (vector_coefficients t r))) k rows (λ r n i m.
    let below = residue_below (get_or (get_or after r record { 0 = [] }).0 n (pos 0)) in
    let own : vector_coefficients w r n ≡ vector_coefficients after r n = ap residue (written r n i m) ∙ omega (arith, below) in
    let multiple = product_same (coefficients d.0) (vector_coefficients t r) (coefficients c.0) (vector_coefficients t r) (λ j q. congruent_of (same j q)) (λ j q. congruent_refl (vector_coefficients t r j)) n m in
    own ∙ made r n i m ∙ ap (λ (x : ℕ). (vector_coefficients before r n + 8380416 * x) % 8380417) multiple)

-- UseHint of h and what is made of A z and t1 2^13 is w1'
pub w1_prime-is : (p : ParameterSet) (a : List (List T)) (t1 z h az u : List R) (c : R) (k l : ℕ) → k ≡ p.k → l ≡ p.l
    → ((r n : ℕ) → r < k → n < 256 → vector_coefficients az r n ≡ matrix_product l a (vector_coefficients z) r n) → AreShifted k t1 u
    → hinted p h (λ r. minus (vector_coefficients az r) (product (coefficients c.0) (vector_coefficients u r))) ≡ w1_prime p a t1 z h c
unfolding w1_prime
w1_prime-is p a t1 z h az u c k l rows columns made shifted =
    hinted-same p h _ _ k rows (λ r n i m.
    let challenge = coefficients c.0 in
    let same = product_same challenge (vector_coefficients u r) challenge (t1_shifted t1 r) (λ j q. congruent_refl (challenge j)) (λ j q. congruent_of (shifted r j i q)) n m in
    rw (made r n i m, same, columns) refl)

-- what UseHint gives at each place, as a vector
pub hinted-is : (p : ParameterSet) (h w v : List R) (k : ℕ) → k ≡ p.k
    → v ≡ vector_of k (λ r n. pos (use_hint p.gamma2 (int_lt (pos 0) (coefficient_of h r n)) (vector_coefficients w r n))) → v ≡ hinted p h (vector_coefficients w)
unfolding is_one
hinted-is p h w v k rows e = e ∙ rw rows refl

pub hinted-range : (p : ParameterSet) (h w v : List R) → (p.gamma2 ≡ 95232) ⊎ (p.gamma2 ≡ 261888) → v ≡ hinted p h (vector_coefficients w)
    → All (λ x. PolynomialInRange (pos 0) (pos (high_count p.gamma2 - 1)) x.0) v
hinted-range p h w v set e =
    let empty : R = record { 0 = [] } in
    let f = λ (r n : ℕ). pos (use_hint p.gamma2 (is_one (get_or h r empty) n) (vector_coefficients w r n)) in
    let vector = vector_of-range p.k 0 (high_count p.gamma2 - 1) f (λ r n l m.
    let below = use_hint-below p.gamma2 (vector_coefficients w r n) (is_one (get_or h r empty) n) set (residue_below (coefficient_of w r n)) in
    (omega (arith, ints), omega (arith, ints, below))) in
    subst (λ (x : List R). All (λ x. PolynomialInRange (pos 0) (pos (high_count p.gamma2 - 1)) x.0) x) (sym e) vector.range

-- ---- ranges

-- a vector with coefficients in [1 - gamma1, gamma1]
pub response-within : (gamma1 l : ℕ) (z : List R) → gamma1 ≤ 524288 → IsVector l (gamma1 - 1) gamma1 z → VectorWithin l 524288 z
response-within gamma1 l z h vector = vector-within l (gamma1 - 1) gamma1 524288 z (omega (arith, h)) h vector

-- ---- the parts of a signature

-- with the challenge and w1' at hand the commitment hash decides
pub decided : (p : ParameterSet) (H : List ℕ → List ℕ) (a : List (List T)) (t1 z h w1 : List R) (mu c_tilde : List ℕ) (ball : Option R) (c : R) (answer : Bool)
    → ball ≡ Some c → w1 ≡ w1_prime p a t1 z h c → (IsTrue answer ↔ (c_tilde ≡ commitment_hash p H mu w1))
    → IsTrue answer ↔ ((c : R) × (ball ≡ Some c) × (c_tilde ≡ commitment_hash p H mu (w1_prime p a t1 z h c)))
decided p H a t1 z h w1 mu c_tilde ball c answer b w both = (
  λ t. (c, b, both.0 t ∙ ap (commitment_hash p H mu) w),
  λ x.
      let c' : x.0 ≡ c = same_some x.0 c (sym x.1 ∙ b) in
      both.1 (x.2 ∙ ap (λ c. commitment_hash p H mu (w1_prime p a t1 z h c)) c' ∙ sym (ap (commitment_hash p H mu) w)),
)

-- what the parts c_tilde, z and h of a signature keep besides the norm of z
abbrev pub Gives : ParameterSet → (List ℕ → List ℕ) → List (List T) → List R → List ℕ → List ℕ → List R → List R → Type 0
Gives p H a t1 mu c_tilde z h = (c : R) × (challenge p.tau (H c_tilde) ≡ Some c) × (c_tilde ≡ commitment_hash p H mu (w1_prime p a t1 z h c))

pub accepts-in : (p : ParameterSet) (H : List ℕ → List ℕ) (a : List (List T)) (t1 : List R) (mu sig c_tilde : List ℕ) (z h : List R) (c : R)
    → OpensTo p H sig c_tilde z h c → Gives p H a t1 mu c_tilde z h → Accepts p H a t1 mu sig
unfolding commitment_hash
accepts-in p H a t1 mu sig c_tilde z h c parts x = record {
  c_tilde = c_tilde;
  w1 = w1_bytes p.gamma2 (w1_prime p a t1 z h x.0);
  opened = record { z = z; h = h; parts = parts.parts; norm = parts.norm; c = x.0; sampled = x.1; recomputed = refl };
  same = x.2;
}

-- a signature has no other parts
pub same_norm : (p : ParameterSet) (H : List ℕ → List ℕ) (sig c_tilde c_tilde' : List ℕ) (z z' h h' : List R) (c : R) → 1 ≤ p.gamma1 → p.gamma1 ≤ 1048575
    → IsSignature p.gamma1 p.omega p.k p.l (c_tilde_length p) sig c_tilde z h → OpensTo p H sig c_tilde' z' h' c → vector_norm z < p.gamma1 - p.beta
same_norm p H sig c_tilde c_tilde' z z' h h' c low high parts v =
    let same = same_signature p.gamma1 p.omega p.k p.l (c_tilde_length p) sig c_tilde' c_tilde z' z h' h low high v.parts parts in
    subst (λ (z : List R). vector_norm z < p.gamma1 - p.beta) same.1 v.norm

pub accepts-out : (p : ParameterSet) (H : List ℕ → List ℕ) (a : List (List T)) (t1 : List R) (mu sig c_tilde : List ℕ) (z h : List R) (c : R) → 1 ≤ p.gamma1 → p.gamma1 ≤ 1048575
    → OpensTo p H sig c_tilde z h c → Accepts p H a t1 mu sig → Gives p H a t1 mu c_tilde z h
unfolding commitment_hash
accepts-out p H a t1 mu sig c_tilde z h c low high parts v =
    let o = v.opened in
    let same = same_signature p.gamma1 p.omega p.k p.l (c_tilde_length p) sig v.c_tilde c_tilde o.z z o.h h low high o.parts parts.parts in
    let ball = subst (λ (x : List ℕ). challenge p.tau (H x) ≡ Some o.c) same.0 o.sampled in
    let hash = λ (w1 : List ℕ). take (c_tilde_length p) (H (mu ++ w1)) in
    let value = sym same.0 ∙ v.same ∙ ap hash (o.recomputed ∙ ap (λ (z : List R). w1_bytes p.gamma2 (w1_prime p a t1 z o.h o.c)) same.1 ∙ ap (λ (h : List R). w1_bytes p.gamma2 (w1_prime p a t1 z h o.c)) same.2) in
    (o.c, ball, value)

-- a signature without such parts is not accepted
pub unopened : (p : ParameterSet) (H : List ℕ → List ℕ) (a : List (List T)) (t1 : List R) (mu sig : List ℕ)
    → ((c_tilde : List ℕ) (z h : List R) (c : R) → OpensTo p H sig c_tilde z h c → ⊥) → Accepts p H a t1 mu sig → ⊥
unopened p H a t1 mu sig none v =
    let o = v.opened in
    none v.c_tilde o.z o.h o.c record { parts = o.parts; norm = o.norm; sampled = o.sampled }

-- with the parts at hand acceptance is what they give
pub accepts-by_parts : (p : Params) (H : List ℕ → List ℕ) (a : List (List T)) (t1 : List R) (mu sig c_tilde : List ℕ) (z h : List R) (c : R) (answer : Bool) → IsKnown p
    → OpensTo (set_of p) H sig c_tilde z h c → (IsTrue answer ↔ Gives (set_of p) H a t1 mu c_tilde z h) → IsTrue answer ↔ Accepts (set_of p) H a t1 mu sig
accepts-by_parts p H a t1 mu sig c_tilde z h c answer known parts both =
    let sizes = mask-size p.gamma1 (limits p known).mask in (
      λ t. accepts-in (set_of p) H a t1 mu sig c_tilde z h c parts (both.0 t),
      λ v. both.1 (accepts-out (set_of p) H a t1 mu sig c_tilde z h c sizes.0 (omega (arith, sizes.1)) parts v),
    )

-- with the challenge, A z and t1 2^13 at hand, the commitment hash decides
pub commitment-decides : (p : Params) (H : List ℕ → List ℕ) (a : List (List T)) (t1 : List R) (mu sig c_tilde : List ℕ) (z h : List R) (c : R) (az u : List R) (k l : ℕ) (answer : Bool) → IsKnown p → k ≡ p.k → l ≡ p.l
    → OpensTo (set_of p) H sig c_tilde z h c
    → ((r n : ℕ) → r < k → n < 256 → vector_coefficients az r n ≡ matrix_product l a (vector_coefficients z) r n) → AreShifted k t1 u
    → (IsTrue answer ↔ (c_tilde ≡ commitment_hash (set_of p) H mu (hinted (set_of p) h (λ r. minus (vector_coefficients az r) (product (coefficients c.0) (vector_coefficients u r))))))
    → IsTrue answer ↔ Accepts (set_of p) H a t1 mu sig
commitment-decides p H a t1 mu sig c_tilde z h c az u k l answer known rows columns parts made shifted verdict =
    accepts-by_parts p H a t1 mu sig c_tilde z h c answer known parts
    (decided (set_of p) H a t1 z h (hinted (set_of p) h (λ r. minus (vector_coefficients az r) (product (coefficients c.0) (vector_coefficients u r)))) mu c_tilde (challenge (nat_abs p.tau) (H c_tilde)) c answer parts.sampled
    (w1_prime-is (set_of p) a t1 z h az u c k l rows columns made shifted) verdict)

-- with the matrix at hand acceptance is that of the plain key
pub verifies-with : (p : ParameterSet) (H G : List ℕ → List ℕ) (pk : PublicParts) (mu sig : List ℕ) (a : List (List T)) (answer : Bool)
    → sampled_matrix G pk.rho p.k p.l ≡ Some a → (IsTrue answer ↔ Accepts p H a pk.t1 mu sig) → IsTrue answer ↔ Verifies p H G pk mu sig
verifies-with p H G pk mu sig a answer there both = (
  λ t. record { a = a; matrix = there; accepted = both.0 t },
  λ v. both.1 (subst (λ (x : List (List T)). Accepts p H x pk.t1 mu sig) (same_some v.a a (sym v.matrix ∙ there)) v.accepted),
)
