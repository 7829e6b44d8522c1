-- Symbols and their numbers: what is shown by computing all the cases, and what follows for each.
use Rattle.std.proofs.Common.{◌≡◌, ℕ, ◌+◌, ◌-◌, ◌*◌, ◌/◌, ◌%◌, ◌<◌, ◌≤◌, ◌≢◌, ◌⊎◌, inl, inr, true, false, eqb, ltb, min, [], ◌∷◌, Ok, Err, refl, arith}
use Rattle.std.proofs.lemmas.Bool.{eqb-true, cases_lt}
use Rattle.std.proofs.lemmas.Bool.Decides.{nat_tests}
use Rattle.fips204_shake.specs.Base64.{alphabet, symbol}
use Rattle.fips204_shake.specs.Base64Reading.{value_of, three_bytes, two_bytes, one_byte}
use Rattle.fips204_shake.specs.declared.pem.fault.PemFault.TheVariants.{Damaged}
use Rattle.fips204_base.proofs.Roots.{all_below, at_index}

-- 1 where a byte is at least so large
abbrev pub from : ℕ → ℕ → ℕ
from byte least = (byte + 256 - least) / 256

abbrev pub other : ℕ → ℕ
other byte =
    1 - (from byte 43 - from byte 44 + (from byte 47 - from byte 48) + (from byte 48 - from byte 58) + (from byte 65 - from byte 91) + (from byte 97 - from byte 123))

abbrev pub number : ℕ → ℕ
number byte =
    byte + 19 * (from byte 43 - from byte 44) + 16 * (from byte 47 - from byte 48) + 4 * (from byte 48 - from byte 58)
    + 256 * other byte - 65 * (from byte 65 - from byte 91) - 71 * (from byte 97 - from byte 123)

number_tested : all_below 256 (λ byte. eqb (min 64 (number byte)) (value_of byte)) ≡ true
unfolding value_of alphabet
number_tested = refl

pub number_is : (byte : ℕ) → byte < 256 → min 64 (number byte) ≡ value_of byte
number_is byte small = eqb-true _ _ (at_index 256 (λ byte. eqb (min 64 (number byte)) (value_of byte)) number_tested byte small)

abbrev pub written : ℕ → ℕ
written value = value + 65 + 6 * from value 26 + 3 * from value 63 - 75 * from value 52 - 15 * from value 62

written_tested : all_below 64 (λ value. eqb (written value) (symbol value)) ≡ true
unfolding symbol alphabet
written_tested = refl

pub written_is : (value : ℕ) → value < 64 → written value ≡ symbol value
written_is value small = eqb-true _ _ (at_index 64 (λ value. eqb (written value) (symbol value)) written_tested value small)

-- ---- four symbols

small_value : (number value : ℕ) → min 64 number ≡ value → number < 64 → (value ≡ number) × (ltb value 64 ≡ true)
small_value number value is small = let same : value ≡ number = omega arith in (same, rw same (grind (arith, nat_tests)))

large_value : (number value : ℕ) → min 64 number ≡ value → 64 ≤ number → ltb value 64 ≡ false
large_value number value is large = let same : value ≡ 64 = omega arith in rw same refl

below_64 : (number : ℕ) → (64 ≤ number → 256 ≤ number) → number < 256 → number < 64
below_64 number apart small = elim (cases_lt number 64) [ inl below ↦ below | inr above ↦ absurd (omega (arith, apart above)) ]

pub three_read : (p q r s a b c d : ℕ) → min 64 p ≡ a → min 64 q ≡ b → min 64 r ≡ c → min 64 s ≡ d
    → (64 ≤ p → 256 ≤ p) → (64 ≤ q → 256 ≤ q) → (64 ≤ r → 256 ≤ r) → (64 ≤ s → 256 ≤ s) → p + q + r + s < 256
    → three_bytes a b c d ≡ Ok ((4 * p + q / 16) ∷ (16 * (q % 16) + r / 4) ∷ (64 * (r % 4) + s) ∷ [])
three_read p q r s a b c d ip iq ir is xp xq xr xs below =
    let np = small_value p a ip (below_64 p xp (omega arith)) in
    let nq = small_value q b iq (below_64 q xq (omega arith)) in
    let nr = small_value r c ir (below_64 r xr (omega arith)) in
    let ns = small_value s d is (below_64 s xs (omega arith)) in
    rw (np.1, nq.1, nr.1, ns.1, np.0, nq.0, nr.0, ns.0) refl

pub three_refused : (p q r s a b c d : ℕ) → min 64 p ≡ a → min 64 q ≡ b → min 64 r ≡ c → min 64 s ≡ d → 256 ≤ p + q + r + s → three_bytes a b c d ≡ Err Damaged
three_refused p q r s a b c d ip iq ir is above =
    elim (cases_lt p 64) [
      | inr large ↦ rw (large_value p a ip large) refl
      | inl some ↦
          elim (cases_lt q 64) [
            | inr large ↦ rw ((small_value p a ip some).1, large_value q b iq large) refl
            | inl more ↦
                elim (cases_lt r 64) [
                  | inr large ↦ rw ((small_value p a ip some).1, (small_value q b iq more).1, large_value r c ir large) refl
                  | inl most ↦
                      let large : 64 ≤ s = omega arith in
                      rw ((small_value p a ip some).1, (small_value q b iq more).1, (small_value r c ir most).1, large_value s d is large) refl
                ]
          ]
    ]

pub two_read : (p q r a b c : ℕ) → min 64 p ≡ a → min 64 q ≡ b → min 64 r ≡ c
    → (64 ≤ p → 256 ≤ p) → (64 ≤ q → 256 ≤ q) → (64 ≤ r → 256 ≤ r) → p + q + r < 256 → r % 4 ≡ 0
    → two_bytes a b c ≡ Ok ((4 * p + q / 16) ∷ (16 * (q % 16) + r / 4) ∷ [])
two_read p q r a b c ip iq ir xp xq xr below last =
    let np = small_value p a ip (below_64 p xp (omega arith)) in
    let nq = small_value q b iq (below_64 q xq (omega arith)) in
    let nr = small_value r c ir (below_64 r xr (omega arith)) in
    rw (np.1, nq.1, nr.1, np.0, nq.0, nr.0, last) refl

pub two_refused : (p q r a b c : ℕ) → min 64 p ≡ a → min 64 q ≡ b → min 64 r ≡ c
    → (256 ≤ p + q + r) ⊎ (r % 4 ≢ 0) → two_bytes a b c ≡ Err Damaged
two_refused p q r a b c ip iq ir bad =
    elim (cases_lt p 64) [
      | inr large ↦ rw (large_value p a ip large) refl
      | inl some ↦
          elim (cases_lt q 64) [
            | inr large ↦ rw ((small_value p a ip some).1, large_value q b iq large) refl
            | inl more ↦
                elim (cases_lt r 64) [
                  | inr large ↦ rw ((small_value p a ip some).1, (small_value q b iq more).1, large_value r c ir large) refl
                  | inl most ↦
                      let other : eqb (r % 4) 0 ≡ false = elim bad [ inl above ↦ absurd (omega arith) | inr other ↦ grind (arith, nat_tests) ] in
                      rw ((small_value p a ip some).1, (small_value q b iq more).1, (small_value r c ir most).1, (small_value r c ir most).0, other) refl
                ]
          ]
    ]

pub one_read : (p q a b : ℕ) → min 64 p ≡ a → min 64 q ≡ b → (64 ≤ p → 256 ≤ p) → (64 ≤ q → 256 ≤ q) → p + q < 256 → q % 16 ≡ 0
    → one_byte a b ≡ Ok ((4 * p + q / 16) ∷ [])
one_read p q a b ip iq xp xq below last =
    let np = small_value p a ip (below_64 p xp (omega arith)) in
    let nq = small_value q b iq (below_64 q xq (omega arith)) in
    rw (np.1, nq.1, np.0, nq.0, last) refl

pub one_refused : (p q a b : ℕ) → min 64 p ≡ a → min 64 q ≡ b → (256 ≤ p + q) ⊎ (q % 16 ≢ 0) → one_byte a b ≡ Err Damaged
one_refused p q a b ip iq bad =
    elim (cases_lt p 64) [
      | inr large ↦ rw (large_value p a ip large) refl
      | inl some ↦
          elim (cases_lt q 64) [
            | inr large ↦ rw ((small_value p a ip some).1, large_value q b iq large) refl
            | inl more ↦
                let other : eqb (q % 16) 0 ≡ false = elim bad [ inl above ↦ absurd (omega arith) | inr other ↦ grind (arith, nat_tests) ] in
                rw ((small_value p a ip some).1, (small_value q b iq more).1, (small_value q b iq more).0, other) refl
          ]
    ]
