-- Rounding: r is near the multiple k * 2 g, where k is the quotient (r + g - 1) / (2 g).
use Rattle.std.proofs.Common.{◌≡◌, ◌≢◌, ℕ, ◌<◌, ◌≤◌, ◌+◌, ◌-◌, ◌*◌, ◌/◌, ◌%◌, ℤ, pos, ◌+ℤ◌, ◌-ℤ◌, nat_abs, refl, Bool, true, false, arith, sym, ap, ◌∙◌, inl, inr}
use Rattle.std.proofs.lemmas.Int.{ints}
use Rattle.std.proofs.lemmas.Nat.{div-mul-add, mod-mul-add, div-add-mod', mod_below}
use Rattle.std.proofs.lemmas.Bool.{cases_lt, le-leb, lt-leb, eq-eqb, ne_eqb, cases_eq}
use Rattle.fips204_base.specs.Residues.{centred_modulo}
use Rattle.fips204_base.specs.Rounding.{power2round, decompose, high_bits, low_bits, high_count, use_hint}
use Rattle.std.specs.Prelude.{◌⊎◌, ◌<ℤ◌, ◌≤ℤ◌, int_lt}
use Rattle.std.proofs.lemmas.Grind.{common_steps}

-- r - r0, where r0 is r centred modulo 2 gamma2: the multiple of 2 gamma2 that is nearest to r
abbrev pub nearest_multiple : ℕ → ℕ → ℕ
nearest_multiple gamma2 r = nat_abs (pos r -ℤ centred_modulo (2 * gamma2) r)

-- the two reciprocals: 1488 * 11275 is 2^24 - 16, and 4092 * 1025 is 2^22 - 4
pub reciprocal_95232 : (r : ℕ) → r < 8380417 → ((r + 127) / 128 * 11275 + 8388608) / 16777216 ≡ (r + 95231) / 190464
reciprocal_95232 r h = omega arith

pub reciprocal_261888 : (r : ℕ) → r < 8380417 → ((r + 127) / 128 * 1025 + 2097152) / 4194304 ≡ (r + 261887) / 523776
reciprocal_261888 r h = omega arith

half : (g : ℕ) → 2 * g / 2 ≡ g
half g = omega arith

-- a number that is at most g above a multiple, or less than g below it
rounds_down : (g a s : ℕ) → 0 < g → s ≤ g → (a * (2 * g) + s + g - 1) / (2 * g) ≡ a
rounds_down g a s p h = grind (arith, ints, common_steps, div-mul-add)

rounds_up : (g a s : ℕ) → g < s → s < 2 * g → (a * (2 * g) + s + g - 1) / (2 * g) ≡ a + 1
rounds_up g a s p h = grind (arith, ints, common_steps, div-mul-add)

-- what is left of r is centred
pub centred_modulo-is : (g r : ℕ) → 0 < g → centred_modulo (2 * g) r ≡ pos r -ℤ pos ((r + g - 1) / (2 * g) * (2 * g))
centred_modulo-is g r p =
    let parts = div-add-mod' r (2 * g) in
    let below = mod_below r (2 * g) (omega arith) in
    elim (cases_lt g (r % (2 * g))) [
      | inl above ↦
          let k : (r + g - 1) / (2 * g) ≡ r / (2 * g) + 1 = ap (λ n. (n + g - 1) / (2 * g)) (sym parts) ∙ rounds_up g (r / (2 * g)) (r % (2 * g)) above below in
          rw (k, half, lt-leb (r % (2 * g)) g above) (omega (arith, ints))
      | inr least ↦
          let k : (r + g - 1) / (2 * g) ≡ r / (2 * g) = ap (λ n. (n + g - 1) / (2 * g)) (sym parts) ∙ rounds_down g (r / (2 * g)) (r % (2 * g)) p least in
          rw (k, half, le-leb (r % (2 * g)) g least) (omega (arith, ints))
    ]

-- the multiple that Decompose goes down to
nearest_multiple-is : (g r : ℕ) → 0 < g → nearest_multiple g r ≡ (r + g - 1) / (2 * g) * (2 * g)
nearest_multiple-is g r p = rw (centred_modulo-is g r p) (omega (arith, ints))

quotient-times : (k g : ℕ) → 0 < g → k * (2 * g) / (2 * g) ≡ k
quotient-times k g p = grind (arith, ints, common_steps, div-mul-add)

-- Decompose, where k is the nearest quotient: at the edge, where the multiple is q - 1, and elsewhere
decompose_edge : (g r k : ℕ) → 0 < g → k ≡ (r + g - 1) / (2 * g) → k * (2 * g) ≡ 8380416 → decompose g r ≡ (0, pos r -ℤ pos (k * (2 * g)) -ℤ pos 1)
unfolding decompose
decompose_edge g r k p is edge = rw (nearest_multiple-is g r p, centred_modulo-is g r p, ← is, eq-eqb (k * (2 * g)) 8380416 edge)

decompose_other : (g r k : ℕ) → 0 < g → k ≡ (r + g - 1) / (2 * g) → k * (2 * g) ≢ 8380416 → decompose g r ≡ (k, pos r -ℤ pos (k * (2 * g)))
unfolding decompose
decompose_other g r k p is other = rw (nearest_multiple-is g r p, centred_modulo-is g r p, ← is, ne_eqb (k * (2 * g)) 8380416 other, quotient-times k g p)

pub high_bits-edge : (g r k : ℕ) → 0 < g → k ≡ (r + g - 1) / (2 * g) → k * (2 * g) ≡ 8380416 → high_bits g r ≡ 0
high_bits-edge g r k p is edge = ap (λ d. d.0) (decompose_edge g r k p is edge)

pub low_bits-edge : (g r k : ℕ) → 0 < g → k ≡ (r + g - 1) / (2 * g) → k * (2 * g) ≡ 8380416 → low_bits g r ≡ pos r -ℤ pos (k * (2 * g)) -ℤ pos 1
low_bits-edge g r k p is edge = ap (λ d. d.1) (decompose_edge g r k p is edge)

pub high_bits-other : (g r k : ℕ) → 0 < g → k ≡ (r + g - 1) / (2 * g) → k * (2 * g) ≢ 8380416 → high_bits g r ≡ k
high_bits-other g r k p is other = ap (λ d. d.0) (decompose_other g r k p is other)

pub low_bits-other : (g r k : ℕ) → 0 < g → k ≡ (r + g - 1) / (2 * g) → k * (2 * g) ≢ 8380416 → low_bits g r ≡ pos r -ℤ pos (k * (2 * g))
low_bits-other g r k p is other = ap (λ d. d.1) (decompose_other g r k p is other)

-- high bits are below their number of values
pub high_bits_below : (g r : ℕ) → (g ≡ 95232) ⊎ (g ≡ 261888) → r < 8380417 → high_bits g r < high_count g
high_bits_below g r (inl is) h = rw is (below_44 r h)
  where
    below_44 : (n : ℕ) → n < 8380417 → high_bits 95232 n < 44
    below_44 n p = elim (cases_eq ((n + 95231) / 190464 * 190464) 8380416) [
      | inl edge ↦ rw (high_bits-edge 95232 n ((n + 95231) / 190464) (omega arith) (omega arith) edge) (omega arith)
      | inr other ↦ rw (high_bits-other 95232 n ((n + 95231) / 190464) (omega arith) (omega arith) other) (omega arith)
    ]
high_bits_below g r (inr is) h = rw is (below_16 r h)
  where
    below_16 : (n : ℕ) → n < 8380417 → high_bits 261888 n < 16
    below_16 n p = elim (cases_eq ((n + 261887) / 523776 * 523776) 8380416) [
      | inl edge ↦ rw (high_bits-edge 261888 n ((n + 261887) / 523776) (omega arith) (omega arith) edge) (omega arith)
      | inr other ↦ rw (high_bits-other 261888 n ((n + 261887) / 523776) (omega arith) (omega arith) other) (omega arith)
    ]

pub above : (z : ℤ) → pos 0 <ℤ z → int_lt (pos 0) z ≡ true
above z h = grind (arith, ints)

pub not_above : (z : ℤ) → z ≤ℤ pos 0 → int_lt (pos 0) z ≡ false
not_above z h = grind (arith, ints)

remainder : (n k m b : ℕ) → b < m → n ≡ k * m + b → n % m ≡ b
remainder n k m b p is = ap (λ x. x % m) is ∙ mod-mul-add k m b p

-- UseHint without a hint, and the four ways a hint moves
pub use_hint-none : (g r : ℕ) (h : Bool) → h ≡ false → use_hint g h r ≡ high_bits g r
unfolding use_hint
use_hint-none g r h none = rw none

pub use_hint-up : (g r : ℕ) (h : Bool) → h ≡ true → pos 0 <ℤ low_bits g r → high_bits g r + 1 < high_count g → use_hint g h r ≡ high_bits g r + 1
unfolding use_hint
use_hint-up g r h one low room = rw (one, above (low_bits g r) low) (remainder (high_bits g r + 1) 0 (high_count g) (high_bits g r + 1) room (omega arith))

pub use_hint-up_round : (g r : ℕ) (h : Bool) → h ≡ true → pos 0 <ℤ low_bits g r → high_bits g r + 1 ≡ high_count g → use_hint g h r ≡ 0
unfolding use_hint
use_hint-up_round g r h one low last = rw (one, above (low_bits g r) low) (remainder (high_bits g r + 1) 1 (high_count g) 0 (omega arith) (omega arith))

pub use_hint-down : (g r : ℕ) (h : Bool) → h ≡ true → low_bits g r ≤ℤ pos 0 → 0 < high_bits g r → high_bits g r < high_count g → use_hint g h r ≡ high_bits g r - 1
unfolding use_hint
use_hint-down g r h one low room below = rw (one, not_above (low_bits g r) low) (remainder (high_bits g r + (high_count g - 1)) 1 (high_count g) (high_bits g r - 1) (omega arith) (omega arith))

pub use_hint-down_round : (g r : ℕ) (h : Bool) → h ≡ true → low_bits g r ≤ℤ pos 0 → high_bits g r ≡ 0 → 0 < high_count g → use_hint g h r ≡ high_count g - 1
unfolding use_hint
use_hint-down_round g r h one low first some = rw (one, not_above (low_bits g r) low) (remainder (high_bits g r + (high_count g - 1)) 0 (high_count g) (high_count g - 1) (omega arith) (omega arith))

pub ruleset hinted = (use_hint-none, use_hint-up, use_hint-up_round, use_hint-down, use_hint-down_round)

-- the nearest quotient: r is at most g above its multiple, and less than g below it
nearest : (g r k : ℕ) → 0 < g → k ≡ (r + g - 1) / (2 * g) → (k * (2 * g) < r + g) × (r ≤ k * (2 * g) + g)
nearest g r k p is = grind (arith, ints, common_steps, div-add-mod', mod_below)

-- where r stands: within g below q, with high bits 0; or near the multiple of its high bits
pub record IsLast (g r : ℕ) : Type 0 where
  pub high : high_bits g r ≡ 0
  pub low : low_bits g r ≡ pos r -ℤ pos 8380417
  pub near : 8380416 < r + g

pub record IsNear (g r : ℕ) : Type 0 where
  pub low : low_bits g r ≡ pos r -ℤ pos (high_bits g r * (2 * g))
  pub above : high_bits g r * (2 * g) < r + g
  pub below : r ≤ high_bits g r * (2 * g) + g

pub decompose_sides : (g r : ℕ) → 0 < g → IsLast g r ⊎ IsNear g r
decompose_sides g r p =
    let k = (r + g - 1) / (2 * g) in
    let here = nearest g r k p refl in
    elim (cases_eq (k * (2 * g)) 8380416) [
      | inl edge ↦ inl record {
        high = high_bits-edge g r k p refl edge;
        low = low_bits-edge g r k p refl edge ∙ omega (arith, ints, edge);
        near = omega (arith, edge, here);
      }
      | inr other ↦
          let high = high_bits-other g r k p refl other in
          inr record {
            low = rw high (low_bits-other g r k p refl other);
            above = rw high here.0;
            below = rw high here.1;
          }
    ]

-- low bits are at most g in absolute value
pub low_bits_near : (g r : ℕ) → 0 < g → r < 8380417 → nat_abs (low_bits g r) ≤ g
low_bits_near g r p h = grind (arith, ints, common_steps, decompose_sides, above)

-- Power2Round: r1 is at most 1023, r0 is from -4095 to 4096, and they give r back
pub power2round_high : (r : ℕ) → r < 8380417 → (power2round r).0 ≤ 1023
power2round_high r h = rw (centred_modulo-is 4096 r (omega arith)) (omega (arith, ints))

pub power2round_low : (r : ℕ) → r < 8380417 → ((pos 0 -ℤ pos 4095) ≤ℤ (power2round r).1) × ((power2round r).1 ≤ℤ pos 4096)
power2round_low r h = rw (centred_modulo-is 4096 r (omega arith)) (omega (arith, ints), omega (arith, ints))

pub power2round_back : (r : ℕ) → r < 8380417 → pos ((power2round r).0 * 8192) +ℤ (power2round r).1 ≡ pos r
power2round_back r h = rw (centred_modulo-is 4096 r (omega arith)) (omega (arith, ints))
