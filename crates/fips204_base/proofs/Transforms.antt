-- The inverse transform undoes the transform, and the transform the inverse transform.
use Rattle.std.proofs.Common.{◌≡◌, ℕ, ◌<◌, ◌+◌, ◌*◌, ◌^◌, ◌%◌, ◌-◌, arith, ap, sym, refl, ◌∙◌}
use Rattle.std.proofs.lemmas.Nat.{pow-add, mul-pow}
use native.Mathlib.Decide.{dec_lt}
use Rattle.fips204_base.specs.Residues.{sum_below, IsCongruent}
use Rattle.fips204_base.specs.Transforms.{bit_reversed, transform, inverse_transform}
use Rattle.fips204_base.proofs.Roots.{root, inverse_root, root_inverse, sum_reversed, sum_turned, geometric, bit_reversed_below, bit_reversed_twice}
use Rattle.fips204_base.proofs.Residues.{congruent_refl, congruent_of, congruent_trans, congruent_mod, congruent_mul, congruent_pow, sum_same, sum_equal, sum_below-times, sum_below-times_right, sum_weighed, pow_mul, one_pow}

-- ---- the sum over the roots of a power
odd_power : (b d : ℕ) → IsCongruent ((1753 ^ (2 * b + 1) % 8380417) ^ d) (1753 ^ d * (1753 ^ (2 * d)) ^ b)
odd_power b d =
    let e : (2 * b + 1) * d ≡ d + 2 * d * b = omega arith in
    congruent_trans (congruent_pow d (congruent_mod (1753 ^ (2 * b + 1))))
    (congruent_of (sym (pow_mul 1753 (2 * b + 1) d) ∙ (ap (λ k. 1753 ^ k) e ∙ (pow-add 1753 d (2 * d * b) ∙ ap (λ t. 1753 ^ d * t) (pow_mul 1753 (2 * d) b)))))

odd_powers : (d : ℕ) → 0 < d → d < 256 → IsCongruent (sum_below 256 (λ b. (1753 ^ (2 * b + 1) % 8380417) ^ d)) 0
odd_powers d p q =
    congruent_trans (sum_same 256 (λ b. (1753 ^ (2 * b + 1) % 8380417) ^ d) (λ b. 1753 ^ d * (1753 ^ (2 * d)) ^ b) (λ b r. odd_power b d))
    (congruent_trans (congruent_of (sum_below-times 256 (1753 ^ d) (λ b. (1753 ^ (2 * d)) ^ b)))
    (congruent_trans (congruent_mul (congruent_refl (1753 ^ d)) (geometric d (omega arith) (omega arith))) (congruent_of (omega arith))))

root_powers : (d : ℕ) → 0 < d → d < 256 → IsCongruent (sum_below 256 (λ i. root i ^ d)) 0
unfolding root
root_powers d p q = congruent_trans (congruent_of (sum_reversed (λ b. (1753 ^ (2 * b + 1) % 8380417) ^ d))) (odd_powers d p q)

inverse_root_powers : (d : ℕ) → 0 < d → d < 256 → IsCongruent (sum_below 256 (λ i. inverse_root i ^ d)) 0
unfolding inverse_root
inverse_root_powers d p q =
    congruent_trans (congruent_of (sum_reversed (λ b. (1753 ^ (512 - (2 * b + 1)) % 8380417) ^ d)
    ∙ (sum_equal 256 (λ b. (1753 ^ (512 - (2 * b + 1)) % 8380417) ^ d) (λ b. (1753 ^ (2 * (255 - b) + 1) % 8380417) ^ d)
    (λ b r. ap (λ k. (1753 ^ k % 8380417) ^ d) (omega arith))
    ∙ sum_turned (λ b. (1753 ^ (2 * b + 1) % 8380417) ^ d))))
    (odd_powers d p q)

-- x^(d + j) y^j, where x y = 1
cancelled : (x y d j : ℕ) → IsCongruent (x * y) 1 → IsCongruent (x ^ (d + j) * y ^ j) (x ^ d)
cancelled x y d j h =
    congruent_trans (congruent_of (regroup (x ^ d) (x ^ j) (y ^ j) (x ^ (d + j)) ((x * y) ^ j) (pow-add x d j) (mul-pow x y j)))
    (congruent_trans (congruent_mul (congruent_refl (x ^ d)) (congruent_trans (congruent_pow j h) (congruent_of (one_pow j)))) (congruent_of (omega arith)))
  where
    regroup : (a b c e f : ℕ) → e ≡ a * b → f ≡ b * c → e * c ≡ a * f
    regroup a b c e f p q = rw (p, q) (omega arith)

ones : sum_below 256 (λ i. 1) ≡ 256
unfolding sum_below
ones = refl

place_same : (k : ℕ) → IsCongruent (sum_below 256 (λ i. root i ^ k * inverse_root i ^ k)) 256
place_same k = congruent_trans (sum_same 256 (λ i. root i ^ k * inverse_root i ^ k) (λ i. 1) (λ i p.
    congruent_trans (congruent_of (sym (mul-pow (root i) (inverse_root i) k))) (congruent_trans (congruent_pow k (root_inverse i p)) (congruent_of (one_pow k))))) (congruent_of ones)

place_other : (k j : ℕ) → k < 256 → j < 256 → ¬ (k ≡ j) → IsCongruent (sum_below 256 (λ i. root i ^ k * inverse_root i ^ j)) 0
place_other k j p q h = elim (dec_lt j k) [
  | yes r ↦ congruent_trans (sum_same 256 (λ i. root i ^ k * inverse_root i ^ j) (λ i. root i ^ (k - j)) (λ i s.
      let e : k - j + j ≡ k = omega arith in
      rw e at (cancelled (root i) (inverse_root i) (k - j) j (root_inverse i s)))) (root_powers (k - j) (omega arith) (omega arith))
  | no r ↦ congruent_trans (sum_same 256 (λ i. root i ^ k * inverse_root i ^ j) (λ i. inverse_root i ^ (j - k)) (λ i s.
      let e : j - k + k ≡ j = omega arith in
      let swapped : IsCongruent (inverse_root i * root i) 1 = congruent_trans (congruent_of (omega arith)) (root_inverse i s) in
      congruent_trans (congruent_of (turn (root i ^ k) (inverse_root i ^ j))) (rw e at (cancelled (inverse_root i) (root i) (j - k) k swapped)))) (inverse_root_powers (j - k) (omega arith) (omega arith))
]
  where
    turn : (a b : ℕ) → a * b ≡ b * a
    turn a b = omega arith

-- ---- the two theorems
abbrev pub value_at : (ℕ → ℕ) → ℕ → ℕ
value_at w x = sum_below 256 (λ j. w j * x ^ j)

pub transform_value : (w : ℕ → ℕ) (i : ℕ) → IsCongruent (transform w i) (value_at w (root i))
unfolding transform root
transform_value w i = congruent_mod (value_at w (root i))

pub inverse_of_transform : (w : ℕ → ℕ) (j : ℕ) → j < 256 → IsCongruent (inverse_transform (transform w) j) (w j)
unfolding inverse_transform inverse_root
inverse_of_transform w j p =
    let inner : IsCongruent (sum_below 256 (λ i. transform w i * inverse_root i ^ j)) (sum_below 256 (λ i. sum_below 256 (λ k. w k * (root i ^ k * inverse_root i ^ j)))) =
    sum_same 256 (λ i. transform w i * inverse_root i ^ j) (λ i. sum_below 256 (λ k. w k * (root i ^ k * inverse_root i ^ j))) (λ i q.
    congruent_trans (congruent_mul (transform_value w i) (congruent_refl (inverse_root i ^ j)))
    (congruent_of (sum_below-times_right 256 (inverse_root i ^ j) (λ k. w k * root i ^ k)
    ∙ sum_equal 256 (λ k. w k * root i ^ k * inverse_root i ^ j) (λ k. w k * (root i ^ k * inverse_root i ^ j)) (λ k r. omega arith)))) in
    let weighed = sum_weighed 256 256 j 256 w (λ i k. root i ^ k * inverse_root i ^ j) p (place_same j) (λ k q h. place_other k j q p h) in
    congruent_trans (congruent_mod _) (congruent_trans (congruent_mul (congruent_refl 8347681) (congruent_trans inner weighed)) record { same = omega arith })

-- ---- the other way round
leaf_same : (i : ℕ) → i < 256 → IsCongruent (sum_below 256 (λ j. inverse_root i ^ j * root i ^ j)) 256
leaf_same i p = congruent_trans (sum_same 256 (λ j. inverse_root i ^ j * root i ^ j) (λ j. 1) (λ j q.
    congruent_trans (congruent_of (turn (root i ^ j) (inverse_root i ^ j) ∙ sym (mul-pow (root i) (inverse_root i) j))) (congruent_trans (congruent_pow j (root_inverse i p)) (congruent_of (one_pow j))))) (congruent_of ones)
  where
    turn : (a b : ℕ) → b * a ≡ a * b
    turn a b = omega arith

root_pair : (i k : ℕ) → i < 256 → k < 256 → IsCongruent (inverse_root k * root i) (1753 ^ (2 * (256 + bit_reversed i - bit_reversed k)))
unfolding root inverse_root
root_pair i k p q =
    let b1 = bit_reversed_below i p in
    let b2 = bit_reversed_below k q in
    let e : 512 - (2 * bit_reversed k + 1) + (2 * bit_reversed i + 1) ≡ 2 * (256 + bit_reversed i - bit_reversed k) = omega arith in
    congruent_trans (congruent_mul (congruent_mod (1753 ^ (512 - (2 * bit_reversed k + 1)))) (congruent_mod (1753 ^ (2 * bit_reversed i + 1))))
    (congruent_of (sym (pow-add 1753 (512 - (2 * bit_reversed k + 1)) (2 * bit_reversed i + 1)) ∙ ap (λ t. 1753 ^ t) e))

leaf_other : (i k : ℕ) → i < 256 → k < 256 → ¬ (k ≡ i) → IsCongruent (sum_below 256 (λ j. inverse_root k ^ j * root i ^ j)) 0
leaf_other i k p q h =
    let b1 = bit_reversed_below i p in
    let b2 = bit_reversed_below k q in
    let apart : ¬ (bit_reversed k ≡ bit_reversed i) = (λ e. h (sym (bit_reversed_twice k q) ∙ (ap bit_reversed e ∙ bit_reversed_twice i p))) in
    congruent_trans (sum_same 256 (λ j. inverse_root k ^ j * root i ^ j) (λ j. (1753 ^ (2 * (256 + bit_reversed i - bit_reversed k))) ^ j) (λ j r.
    congruent_trans (congruent_of (sym (mul-pow (inverse_root k) (root i) j))) (congruent_pow j (root_pair i k p q))))
    (geometric (256 + bit_reversed i - bit_reversed k) (omega arith) (omega arith))

pub transform_of_inverse : (v : ℕ → ℕ) (i : ℕ) → i < 256 → IsCongruent (transform (inverse_transform v) i) (v i)
unfolding inverse_transform inverse_root
transform_of_inverse v i p =
    let inner : IsCongruent (value_at (inverse_transform v) (root i)) (8347681 * sum_below 256 (λ j. sum_below 256 (λ k. v k * (inverse_root k ^ j * root i ^ j)))) =
    congruent_trans (sum_same 256 (λ j. inverse_transform v j * root i ^ j) (λ j. 8347681 * sum_below 256 (λ k. v k * (inverse_root k ^ j * root i ^ j))) (λ j q.
    congruent_trans (congruent_mul (congruent_mod (8347681 * sum_below 256 (λ k. v k * inverse_root k ^ j))) (congruent_refl (root i ^ j)))
    (congruent_of (regroup (sum_below 256 (λ k. v k * inverse_root k ^ j)) (root i ^ j) _ (sum_below-times_right 256 (root i ^ j) (λ k. v k * inverse_root k ^ j)
    ∙ sum_equal 256 (λ k. v k * inverse_root k ^ j * root i ^ j) (λ k. v k * (inverse_root k ^ j * root i ^ j)) (λ k r. omega arith))))))
    (congruent_of (sum_below-times 256 8347681 (λ j. sum_below 256 (λ k. v k * (inverse_root k ^ j * root i ^ j))))) in
    let weighed = sum_weighed 256 256 i 256 v (λ j k. inverse_root k ^ j * root i ^ j) p (leaf_same i p) (λ k q h. leaf_other i k p q h) in
    congruent_trans (transform_value (inverse_transform v) i) (congruent_trans inner (congruent_trans (congruent_mul (congruent_refl 8347681) weighed) record { same = omega arith }))
  where
    regroup : (s x t : ℕ) → s * x ≡ t → 8347681 * s * x ≡ 8347681 * t
    regroup s x t e = rw (← e) (omega arith)
