-- The roots of unity: what is shown by computing all the cases, and what follows at an index.
use Rattle.std.proofs.Common.{◌≡◌, ℕ, zero, suc, ◌<◌, ◌%◌, arith, ap, refl, ◌∙◌, Bool, true, false, eqb, ◌+◌, ◌*◌, ◌^◌, ◌-◌, ◌/◌}
use Rattle.std.proofs.lemmas.Bool.{eqb-true}
use native.Mathlib.Decide.{dec_lt}
use Rattle.fips204_base.specs.Residues.{IsCongruent, sum_below}
use Rattle.fips204_base.specs.Transforms.{bit_reversed, zeta_at}
use Rattle.fips204_base.proofs.Residues.{congruent_of, congruent_sym, congruent_trans, congruent_mod, congruent_pow, sum_same, sum_powers}

-- the point at which value i of a transform is taken
unfoldable pub root : ℕ → ℕ
root i = 1753 ^ (2 * bit_reversed i + 1) % 8380417

-- the inverse of that point; 1753^512 is 1 modulo q
unfoldable pub inverse_root : ℕ → ℕ
inverse_root i = 1753 ^ (512 - (2 * bit_reversed i + 1)) % 8380417

-- Facts of every number below a bound, shown by a test that computes each of them.

abbrev pub both : Bool → Bool → Bool
both true b = b
both false b = false

abbrev pub all_below : ℕ → (ℕ → Bool) → Bool
all_below zero t = true
all_below (suc n) t = both (t n) (all_below n t)

pub both_first : (a b : Bool) → both a b ≡ true → a ≡ true
both_first true b e = refl
both_first false b e = e

pub both_second : (a b : Bool) → both a b ≡ true → b ≡ true
both_second true b e = e
both_second false b e = absurd (cc)

pub at_index : (n : ℕ) (t : ℕ → Bool) → all_below n t ≡ true → (k : ℕ) → k < n → t k ≡ true
at_index zero t e k p = absurd (omega arith)
at_index (suc n) t e k p = elim (dec_lt k n) [
  | yes q ↦ at_index n t (both_second (t n) (all_below n t) e) k q
  | no q ↦ let last : k ≡ n = omega arith in ap t last ∙ both_first (t n) (all_below n t) e
]

abbrev pub same_test : ℕ → ℕ → Bool
same_test a b = eqb (a % 8380417) (b % 8380417)

pub tested : (a b : ℕ) → same_test a b ≡ true → IsCongruent a b
tested a b e = record { same = eqb-true (a % 8380417) (b % 8380417) e }

-- The roots: what is shown by computing all the cases, and what follows at an index.

-- ---- the reversal of bits
below_tested : all_below 256 (λ i. eqb (bit_reversed i / 256) 0) ≡ true
unfolding bit_reversed sum_below
below_tested = refl

pub bit_reversed_below : (m : ℕ) → m < 256 → bit_reversed m < 256
bit_reversed_below m p = omega (arith, eqb-true _ _ (at_index 256 (λ i. eqb (bit_reversed i / 256) 0) below_tested m p))

twice_tested : all_below 256 (λ i. eqb (bit_reversed (bit_reversed i)) i) ≡ true
unfolding bit_reversed sum_below
twice_tested = refl

pub bit_reversed_twice : (m : ℕ) → m < 256 → bit_reversed (bit_reversed m) ≡ m
bit_reversed_twice m p = eqb-true _ _ (at_index 256 (λ i. eqb (bit_reversed (bit_reversed i)) i) twice_tested m p)

-- a sum over all indices in the other order
pub sum_reversed : (f : ℕ → ℕ) → sum_below 256 (λ i. f (bit_reversed i)) ≡ sum_below 256 f
unfolding bit_reversed sum_below
sum_reversed f = omega arith

pub sum_turned : (f : ℕ → ℕ) → sum_below 256 (λ i. f (255 - i)) ≡ sum_below 256 f
unfolding sum_below
sum_turned f = omega arith

inverse_tested : all_below 256 (λ i. same_test (root i * inverse_root i) 1) ≡ true
unfolding root inverse_root bit_reversed sum_below
inverse_tested = refl

pub root_inverse : (i : ℕ) → i < 256 → IsCongruent (root i * inverse_root i) 1
root_inverse i p = tested _ _ (at_index 256 (λ i. same_test (root i * inverse_root i) 1) inverse_tested i p)

turn_tested : all_below 256 (λ i. same_test (root i ^ 256) 8380416) ≡ true
unfolding root bit_reversed sum_below
turn_tested = refl

-- X^256 = -1 at each root
pub root_turn : (i : ℕ) → i < 256 → IsCongruent (root i ^ 256) 8380416
root_turn i p = tested _ _ (at_index 256 (λ i. same_test (root i ^ 256) 8380416) turn_tested i p)

-- ---- the tree of the network: 2^s blocks of 2 * 2^(7-s) leaves
abbrev half_test : ℕ → ℕ → ℕ → Bool
half_test s b k = both (same_test (root (2 * 2 ^ (7 - s) * b + k) ^ 2 ^ (7 - s)) (zeta_at (2 ^ s + b)))
    (same_test (root (2 * 2 ^ (7 - s) * b + k + 2 ^ (7 - s)) ^ 2 ^ (7 - s)) (8380416 * zeta_at (2 ^ s + b)))

half_tested : all_below 8 (λ s. all_below (2 ^ s) (λ b. all_below (2 ^ (7 - s)) (half_test s b))) ≡ true
unfolding root zeta_at bit_reversed sum_below
half_tested = refl

half_at : (s b k : ℕ) → s < 8 → b < 2 ^ s → k < 2 ^ (7 - s) → half_test s b k ≡ true
half_at s b k p q r = at_index (2 ^ (7 - s)) (half_test s b) (at_index (2 ^ s) (λ b. all_below (2 ^ (7 - s)) (half_test s b)) (at_index 8 (λ s. all_below (2 ^ s) (λ b. all_below (2 ^ (7 - s)) (half_test s b))) half_tested s p) b q) k r

-- the leaves of a block's first half are roots of X^len - z, those of the second of X^len + z
pub first_half : (s b k : ℕ) → s < 8 → b < 2 ^ s → k < 2 ^ (7 - s) → IsCongruent (root (2 * 2 ^ (7 - s) * b + k) ^ 2 ^ (7 - s)) (zeta_at (2 ^ s + b))
first_half s b k p q r = tested _ _ (both_first _ _ (half_at s b k p q r))

pub second_half : (s b k : ℕ) → s < 8 → b < 2 ^ s → k < 2 ^ (7 - s) → IsCongruent (root (2 * 2 ^ (7 - s) * b + k + 2 ^ (7 - s)) ^ 2 ^ (7 - s)) (8380416 * zeta_at (2 ^ s + b))
second_half s b k p q r = tested _ _ (both_second _ _ (half_at s b k p q r))

-- the same for the inverses of the roots: minus zeta_at (2 ^ (s + 1) - 1 - b) inverts zeta_at (2 ^ s + b)
abbrev inverse_half_test : ℕ → ℕ → ℕ → Bool
inverse_half_test s b k = both (same_test (inverse_root (2 * 2 ^ (7 - s) * b + k) ^ 2 ^ (7 - s)) (8380416 * zeta_at (2 * 2 ^ s - 1 - b)))
    (same_test (inverse_root (2 * 2 ^ (7 - s) * b + k + 2 ^ (7 - s)) ^ 2 ^ (7 - s)) (zeta_at (2 * 2 ^ s - 1 - b)))

inverse_half_tested : all_below 8 (λ s. all_below (2 ^ s) (λ b. all_below (2 ^ (7 - s)) (inverse_half_test s b))) ≡ true
unfolding inverse_root zeta_at bit_reversed sum_below
inverse_half_tested = refl

inverse_half_at : (s b k : ℕ) → s < 8 → b < 2 ^ s → k < 2 ^ (7 - s) → inverse_half_test s b k ≡ true
inverse_half_at s b k p q r = at_index (2 ^ (7 - s)) (inverse_half_test s b) (at_index (2 ^ s) (λ b. all_below (2 ^ (7 - s)) (inverse_half_test s b)) (at_index 8 (λ s. all_below (2 ^ s) (λ b. all_below (2 ^ (7 - s)) (inverse_half_test s b))) inverse_half_tested s p) b q) k r

pub inverse_first_half : (s b k : ℕ) → s < 8 → b < 2 ^ s → k < 2 ^ (7 - s) → IsCongruent (inverse_root (2 * 2 ^ (7 - s) * b + k) ^ 2 ^ (7 - s)) (8380416 * zeta_at (2 * 2 ^ s - 1 - b))
inverse_first_half s b k p q r = tested _ _ (both_first _ _ (inverse_half_at s b k p q r))

pub inverse_second_half : (s b k : ℕ) → s < 8 → b < 2 ^ s → k < 2 ^ (7 - s) → IsCongruent (inverse_root (2 * 2 ^ (7 - s) * b + k + 2 ^ (7 - s)) ^ 2 ^ (7 - s)) (zeta_at (2 * 2 ^ s - 1 - b))
inverse_second_half s b k p q r = tested _ _ (both_second _ _ (inverse_half_at s b k p q r))

-- ---- sums of powers
abbrev unless_zero : ℕ → Bool → Bool
unless_zero zero b = true
unless_zero (suc n) b = b

unless_zero_says : (n : ℕ) (b : Bool) → ¬ (n ≡ 0) → unless_zero n b ≡ true → b ≡ true
unless_zero_says zero b h e = absurd (h refl)
unless_zero_says (suc n) b h e = e

abbrev eight_factors : ℕ → ℕ
eight_factors x = (1 + x ^ 128) * ((1 + x ^ 64) * ((1 + x ^ 32) * ((1 + x ^ 16) * ((1 + x ^ 8) * ((1 + x ^ 4) * ((1 + x ^ 2) * (1 + x)))))))

abbrev geometric_test : ℕ → Bool
geometric_test d = unless_zero (d % 256) (same_test (eight_factors (1753 ^ (2 * d) % 8380417)) 0)

geometric_tested : all_below 512 geometric_test ≡ true
geometric_tested = refl

-- the powers of an even power of zeta that is not 1 add up to 0
pub geometric : (d : ℕ) → d < 512 → ¬ (d % 256 ≡ 0) → IsCongruent (sum_below 256 (λ j. (1753 ^ (2 * d)) ^ j)) 0
geometric d p h =
    let x = 1753 ^ (2 * d) % 8380417 in
    let zero_product : IsCongruent (eight_factors x) 0 = tested _ _ (unless_zero_says (d % 256) _ h (at_index 512 geometric_test geometric_tested d p)) in
    congruent_trans (sum_same 256 (λ j. (1753 ^ (2 * d)) ^ j) (λ j. x ^ j) (λ j q. congruent_pow j (congruent_sym (congruent_mod (1753 ^ (2 * d))))))
    (congruent_trans (congruent_of (sum_powers x)) zero_product)
