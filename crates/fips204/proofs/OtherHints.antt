-- Two signatures that differ in their hints alone fix two w1.
use Rattle.std.proofs.Common.{◌≡◌, ◌≢◌, ◌<◌, ◌≤◌, ◌⊎◌, ◌+◌, ◌-◌, ◌*◌, ◌%◌, ℕ, ℤ, List, [], ◌++◌, pos, negsuc, length, take, get_or, Bool, true, false, Some, inl, inr, refl, ap, sym, ◌∙◌, arith, true≢false, length-append, int_lt}
use Rattle.fips204.proofs.Names.{cases_Bool, ints, take_at, append_cancel_left, mod_below, R, T, is_one, vector_bytes, hint_bytes, signature_bytes, w1_bytes, IsSignature, width, use_hint, high_bits, low_bits, high_count, challenge, IsVector, coefficient_of, same_vector, high_bits_below, vector_of-entry, vector_of-same, vector_of-range, w1_prime, representative, t1_shifted, hinted, ParameterSet, c_tilde_length, OtherHintCollides}
use Rattle.fips204_base.proofs.Bits.{cut}
use Rattle.fips204_base.proofs.VectorBytes.{vector-length}
use Rattle.fips204.proofs.Binding.{fixed_by}
use Rattle.fips204.proofs.KeptHints.{product_difference}
use Rattle.fips204.proofs.ParameterSets.{set_numbers}
use Rattle.fips204.proofs.Verification.{use_hint-below, hint-bit}

-- ---- UseHint with and without a hint

at_44 : (v : ℕ) → v < 44 → ((v + 1) % 44 ≡ v → ⊥) × ((v + 43) % 44 ≡ v → ⊥)
at_44 v h = (λ e. omega (arith, h, e), λ e. omega (arith, h, e))

at_16 : (v : ℕ) → v < 16 → ((v + 1) % 16 ≡ v → ⊥) × ((v + 15) % 16 ≡ v → ⊥)
at_16 v h = (λ e. omega (arith, h, e), λ e. omega (arith, h, e))

moves : (g v : ℕ) → (g ≡ 95232) ⊎ (g ≡ 261888) → v < high_count g
    → ((v + 1) % high_count g ≡ v → ⊥) × ((v + (high_count g - 1)) % high_count g ≡ v → ⊥)
moves g v (inl e) = rw e (at_44 v)
moves g v (inr e) = rw e (at_16 v)

hint_moves : (g r : ℕ) → (g ≡ 95232) ⊎ (g ≡ 261888) → r < 8380417 → use_hint g true r ≢ use_hint g false r
unfolding use_hint
hint_moves g r set below same =
    let steps = moves g (high_bits g r) set (high_bits_below g r set below) in
    elim (cases_Bool (int_lt (pos 0) (low_bits g r))) [
      | inl up ↦ steps.0 (rw up at same)
      | inr down ↦ steps.1 (rw down at same)
    ]

hint_tells : (g r : ℕ) (b d : Bool) → (g ≡ 95232) ⊎ (g ≡ 261888) → r < 8380417 → use_hint g b r ≡ use_hint g d r → b ≡ d
hint_tells g r true true set below same = refl
hint_tells g r true false set below same = absurd (hint_moves g r set below same)
hint_tells g r false true set below same = absurd (hint_moves g r set below (sym same))
hint_tells g r false false set below same = refl

-- ---- hints by w1'

bit_same : (x y : ℤ) → (x ≡ pos 0) ⊎ (x ≡ pos 1) → (y ≡ pos 0) ⊎ (y ≡ pos 1) → int_lt (pos 0) x ≡ int_lt (pos 0) y → x ≡ y
bit_same x y (inl a) (inl b) e = a ∙ sym b
bit_same x y (inl a) (inr b) e = absurd (true≢false (sym (rw (a, b) at e)))
bit_same x y (inr a) (inl b) e = absurd (true≢false (rw (a, b) at e))
bit_same x y (inr a) (inr b) e = a ∙ sym b

used : ParameterSet → List R → (ℕ → ℕ → ℕ) → ℕ → ℕ → ℤ
used p h w r n = pos (use_hint p.gamma2 (is_one (get_or h r record { 0 = [] }) n) (w r n))

same_hint : (k : ℕ) (h g : List R) → IsVector k 0 1 h → IsVector k 0 1 g
    → ((r n : ℕ) → r < k → n < 256 → is_one (get_or h r record { 0 = [] }) n ≡ is_one (get_or g r record { 0 = [] }) n) → h ≡ g
unfolding is_one
same_hint k h g one two tells =
    let empty : R = record { 0 = [] } in
    let at = λ (v : List R) (is : IsVector k 0 1 v) (same : (r n : ℕ) → r < k → n < 256 → coefficient_of v r n ≡ coefficient_of g r n).
    vector_of-same k (coefficient_of g) v is.rows (λ r i. is.places r empty (omega (arith, i, is.rows))) same in
    let left = at h one (λ r n i l. bit_same (coefficient_of h r n) (coefficient_of g r n) (hint-bit k h r n one i l) (hint-bit k g r n two i l) (tells r n i l)) in
    left ∙ sym (at g two (λ r n i l. refl))

hinted_tells : (p : ParameterSet) (h g : List R) (w : ℕ → ℕ → ℕ) → (p.gamma2 ≡ 95232) ⊎ (p.gamma2 ≡ 261888) → ((r n : ℕ) → w r n < 8380417)
    → IsVector p.k 0 1 h → IsVector p.k 0 1 g → hinted p h w ≡ hinted p g w → h ≡ g
unfolding used
hinted_tells p h g w set below one two same = same_hint p.k h g one two (λ r n i l.
    let values : used p h w r n ≡ used p g w r n = sym (vector_of-entry p.k (used p h w) r n i l) ∙ ap (λ v. coefficient_of v r n) same ∙ vector_of-entry p.k (used p g w) r n i l in
    let numbers = ap nat_of values in
    hint_tells p.gamma2 (w r n) _ _ set (below r n) numbers)
  where
    nat_of : ℤ → ℕ
    nat_of (pos n) = n
    nat_of (negsuc n) = 0

-- w1' has coefficients below the number of high bits
w1-vector : (p : ParameterSet) (h : List R) (w : ℕ → ℕ → ℕ) → (p.gamma2 ≡ 95232) ⊎ (p.gamma2 ≡ 261888) → ((r n : ℕ) → w r n < 8380417)
    → IsVector p.k 0 (high_count p.gamma2 - 1) (hinted p h w)
w1-vector p h w set below = vector_of-range p.k 0 (high_count p.gamma2 - 1) (λ r n. pos (use_hint p.gamma2 (is_one (get_or h r record { 0 = [] }) n) (w r n))) (λ r n i l.
    let small = use_hint-below p.gamma2 (w r n) (is_one (get_or h r record { 0 = [] }) n) set (below r n) in
    (omega (arith, ints), omega (arith, ints, small)))

w1_bounds : (g : ℕ) → (g ≡ 95232) ⊎ (g ≡ 261888) → (0 ≤ 1048575) × (1 ≤ high_count g - 1) × (high_count g - 1 ≤ 1048575)
w1_bounds g (inl e) = rw e (omega arith, omega arith, omega arith)
w1_bounds g (inr e) = rw e (omega arith, omega arith, omega arith)

w1_tells : (p : ParameterSet) (a : List (List T)) (t1 z h g : List R) (c : R) → (p.gamma2 ≡ 95232) ⊎ (p.gamma2 ≡ 261888) → IsVector p.k 0 1 h → IsVector p.k 0 1 g
    → w1_bytes p.gamma2 (w1_prime p a t1 z h c) ≡ w1_bytes p.gamma2 (w1_prime p a t1 z g c) → h ≡ g
unfolding w1_prime
w1_tells p a t1 z h g c set one two same =
    let w = product_difference p.l a z c (t1_shifted t1) in
    let below = λ (r n : ℕ). let small : w r n < 8380417 = mod_below _ 8380417 (omega arith) in small in
    let v = w1-vector p h w set below in
    let u = w1-vector p g w set below in
    hinted_tells p h g w set below one two
    (same_vector p.k p.k 0 (high_count p.gamma2 - 1) (hinted p h w) (hinted p g w) (w1_bounds p.gamma2 set) (v.rows ∙ sym u.rows) v u same)

-- ---- the bytes before the hint

before_hint : (gamma1 omega' k l n : ℕ) (bytes c : List ℕ) (z h : List R) → IsSignature gamma1 omega' k l n bytes c z h
    → take (n + 32 * width (pos (gamma1 - 1)) (pos gamma1) * l) bytes ≡ c ++ vector_bytes (gamma1 - 1) gamma1 z
before_hint gamma1 omega' k l n bytes c z h s =
    let response = vector_bytes (gamma1 - 1) gamma1 z in
    let size = vector-length l (gamma1 - 1) gamma1 z s.response in
    let whole : length (c ++ response) ≡ n + 32 * width (pos (gamma1 - 1)) (pos gamma1) * l = length-append c response ∙ omega (arith, size, s.c_tilde_size) in
    ap (take (n + 32 * width (pos (gamma1 - 1)) (pos gamma1) * l)) (sym s.encoding) ∙ take_at (c ++ response) (hint_bytes omega' h) _ whole

-- ---- the law

pub other_hint_collides : OtherHintCollides
other_hint_collides p H G pk input first second row differ alike accepted other_accepted =
    let mu = representative H pk.tr input in
    let one = accepted.1 in
    let two = other_accepted.1 in
    let numbers = set_numbers p row in
    let x = one.accepted.opened in
    let y = two.accepted.opened in
    let n = c_tilde_length p in
    let c = one.accepted.c_tilde in
    let d = two.accepted.c_tilde in
    let low = numbers.gamma1 in
    let joined = sym (before_hint p.gamma1 p.omega p.k p.l n first c x.z x.h x.parts) ∙ alike ∙ before_hint p.gamma1 p.omega p.k p.l n second d y.z y.h y.parts in
    let parts = cut c d (vector_bytes (p.gamma1 - 1) p.gamma1 x.z) (vector_bytes (p.gamma1 - 1) p.gamma1 y.z) n x.parts.c_tilde_size y.parts.c_tilde_size joined in
    let z : x.z ≡ y.z = same_vector p.l p.l (p.gamma1 - 1) p.gamma1 x.z y.z (omega (arith, low), omega (arith, low), omega (arith, low)) (x.parts.response.rows ∙ sym y.parts.response.rows) x.parts.response y.parts.response parts.1 in
    let challenges : Some x.c ≡ Some y.c = sym x.sampled ∙ ap (λ bytes. challenge p.tau (H bytes)) parts.0 ∙ y.sampled in
    let ball : x.c ≡ y.c = cc in
    let matrices : Some one.a ≡ Some two.a = sym one.matrix ∙ two.matrix in
    let matrix : one.a ≡ two.a = cc in
    let w1 = λ (m : List (List T)) (z h : List R) (c : R). w1_bytes p.gamma2 (w1_prime p m pk.t1 z h c) in
    let other = two.accepted.w1 in
    let moved : other ≡ w1 one.a x.z y.h x.c = y.recomputed ∙ ap (λ m. w1 m y.z y.h y.c) (sym matrix) ∙ ap (λ z. w1 one.a z y.h y.c) (sym z) ∙ ap (λ c. w1 one.a x.z y.h c) (sym ball) in
    record {
      w1 = one.accepted.w1;
      fixed = fixed_by p H G pk mu first one;
      other_w1 = other;
      other_fixed = fixed_by p H G pk mu second two;
      collide = record {
        differ = λ same.
            let equal = sym x.recomputed ∙ append_cancel_left mu one.accepted.w1 other same ∙ moved in
            let hint = w1_tells p one.a pk.t1 x.z x.h y.h x.c numbers.gamma2 x.parts.hint y.parts.hint equal in
            differ (sym x.parts.encoding ∙ ap (λ c. signature_bytes p.gamma1 p.omega c x.z x.h) parts.0 ∙ ap (λ z. signature_bytes p.gamma1 p.omega d z x.h) z
            ∙ ap (signature_bytes p.gamma1 p.omega d y.z) hint ∙ y.parts.encoding);
        same = sym one.accepted.same ∙ parts.0 ∙ two.accepted.same;
      };
    }
