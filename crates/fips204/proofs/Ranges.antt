-- The ranges of what is sampled or given by a type.
use Rattle.std.proofs.Common.{◌≡◌, ℕ, List, [], ◌∷◌, length, ◌<◌, ◌≤◌, suc, ℤ, nat_abs, get_or, take, sym, subst, ◌∙◌, arith, Some, Bool, true, false, inl, inr, refl, ap, Decides, nat_eq, nat_lt}
use Rattle.fips204.proofs.Names.{slice_eq-Decides, sign_of, challenge_picks, PolynomialWithin, coefficient_at, R, cases_Bool, cases_lt, lt-ltb, le-ltb, ints, none-some, bits, polynomial_of, signed_sum, challenge, challenge_places, challenge_places-apart, length-challenge_places, sum-elsewhere, polynomial_of-at}
use lib.Pointwise.{pointwise}
use Rattle.std.specs.Ordering.{int_eq}
use Rattle.std.proofs.lemmas.Bool.Decides.{Decides-int_eq}
use Rattle.std.proofs.lemmas.Bool.{eqb-true}

-- The range of a challenge: ones, minus ones and zeros.

sign-within : (bit : ℕ) → nat_abs (sign_of bit) ≤ 1
sign-within bit = elim (cases_Bool (nat_eq bit 1)) [
  | inl one ↦ rw one (omega arith)
  | inr other ↦ rw other (omega arith)
]

-- at places that all differ at most one sign counts
signed_sum-within : (ps sign_bits : List ℕ) (n : ℕ) → ((i j : ℕ) → i < j → j < length ps → get_or ps i 0 ≡ get_or ps j 0 → ⊥) → nat_abs (signed_sum ps sign_bits n) ≤ 1
unfolding signed_sum
signed_sum-within [] sign_bits n apart = omega arith
signed_sum-within (place ∷ ps) [] n apart = omega arith
signed_sum-within (place ∷ ps) (bit ∷ sign_bits) n apart = elim (cases_Bool (nat_eq place n)) [
  | inl here ↦
      let same : place ≡ n = eqb-true place n here in
      let rest = sum-elsewhere ps sign_bits n (λ k l e. apart 0 (suc k) (omega arith) (omega (arith, l)) (same ∙ sym e)) in
      let one = sign-within bit in
      rw (here, rest) (omega (arith, ints, one))
  | inr other ↦
      let rest = signed_sum-within ps sign_bits n (λ i j h l. apart (suc i) (suc j) (omega (arith, h)) (omega (arith, l))) in
      rw other (omega (arith, ints, rest))
]

-- a challenge is the sum of its signs at its places
pub challenge-sum : (tau : ℕ) (front : List ℕ) (c : R) → challenge tau front ≡ Some c → polynomial_of (signed_sum (challenge_places tau front) (bits 8 (take 8 front))) ≡ c
unfolding challenge challenge_picks
challenge-sum tau front c e = elim (cases_lt (length (challenge_picks tau front)) tau) [
  | inl few ↦
      let test : nat_lt (length (challenge_picks tau front)) tau ≡ true = lt-ltb (length (challenge_picks tau front)) tau few in
      absurd (none-some c (rw test at e))
  | inr enough ↦
      let test : nat_lt (length (challenge_picks tau front)) tau ≡ false = le-ltb (length (challenge_picks tau front)) tau enough in
      let made : Some (polynomial_of (signed_sum (challenge_places tau front) (bits 8 (take 8 front)))) ≡ Some c = rw test at e in
      cc
]

pub challenge-reduced : (tau : ℕ) (front : List ℕ) (c : R) → challenge tau front ≡ Some c → PolynomialWithin 8380416 c.0
challenge-reduced tau front c e n h =
    let f = signed_sum (challenge_places tau front) (bits 8 (take 8 front)) in
    let count = length-challenge_places tau front c e in
    let one = signed_sum-within (challenge_places tau front) (bits 8 (take 8 front)) n (λ i j l m. challenge_places-apart tau front c i j e l (omega (arith, m, count))) in
    subst (λ (w : R). nat_abs (coefficient_at w.0 n) ≤ 8380416) (challenge-sum tau front c e) (rw (polynomial_of-at f n h) (omega (arith, one)))

-- What `==` says of vectors.

decides : (v w : R) → Decides (pointwise int_eq v.0 w.0) (Path R v w)
decides v w =
    let d = slice_eq-Decides Decides-int_eq v.0 w.0 (pointwise int_eq v.0 w.0) refl in
    (λ t. ap (λ (l : List ℤ). let r : R = record { 0 = l } in r) (d.0 t), λ e. d.1 (ap (λ (r : R). r.0) e))

pub vectors_eq-Decides : (v w : List R) (r : Bool) → r ≡ pointwise (λ (a b : R). pointwise int_eq a.0 b.0) v w → Decides r (v ≡ w)
vectors_eq-Decides = slice_eq-Decides decides
