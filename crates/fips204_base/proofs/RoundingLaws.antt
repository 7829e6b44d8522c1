-- Laws of high bits and hints: UseHint at what MakeHint gives, how far UseHint leaves a residue, and sums that keep high bits.
use Rattle.std.proofs.Common.{◌≡◌, ◌≢◌, ℕ, ◌<◌, ◌≤◌, ◌+◌, ◌-◌, ◌*◌, ◌%◌, pos, ◌-ℤ◌, nat_abs, true, false, arith, refl, inl, inr, ap, subst}
use Rattle.std.specs.Prelude.{Bool, ◌⊎◌, ◌<ℤ◌, ◌≤ℤ◌}
use Rattle.std.proofs.lemmas.Int.{ints, by_lt_z}
use Rattle.std.proofs.lemmas.Nat.{mod_below}
use Rattle.std.proofs.lemmas.Bool.{cases_eq, cases_lt, eq-eqb, ne_eqb, le-leb, lt-leb}
use Rattle.fips204_base.specs.Residues.{residue, centred_modulo, centred}
use Rattle.fips204_base.specs.Rounding.{IsGamma2, high_bits, low_bits, high_count, use_hint, make_hint}
use Rattle.fips204_base.proofs.Reductions.{centred-modulo, centred_is}
use Rattle.fips204_base.proofs.Residues.{residue_below}
use Rattle.fips204_base.proofs.Rounding.{decompose_sides, high_bits_below, above, not_above}
use Rattle.std.proofs.lemmas.Grind.{common_steps}

-- gamma2 at the parameter sets, as a natural number
abbrev pub IsGamma : ℕ → Type 0
IsGamma g = (g ≡ 95232) ⊎ (g ≡ 261888)

pub natural_gamma : (g : ℕ) → IsGamma2 (pos g) → IsGamma g
natural_gamma g (inl e) = inl (ap nat_abs e)
natural_gamma g (inr e) = inr (ap nat_abs e)

-- a residue at most n from 0, from above or from below
abbrev IsNearZero : ℕ → ℕ → Type 0
IsNearZero n z = (z ≤ n) ⊎ (8380417 ≤ z + n)

-- where r + z has other high bits than r, they are one further on, round the end, or one further back
high_bits-up : (g : ℕ) → IsGamma g → (r z : ℕ) → r < 8380417 → z < 8380417 → IsNearZero g z → pos 0 <ℤ low_bits g r
    → high_bits g r ≢ high_bits g ((r + z) % 8380417) → (high_bits g r + 1) % high_count g ≡ high_bits g ((r + z) % 8380417)
high_bits-up g (inl is) = grind (arith, ints, common_steps, high_bits_below, decompose_sides)
high_bits-up g (inr is) = grind (arith, ints, common_steps, high_bits_below, decompose_sides)

high_bits-down : (g : ℕ) → IsGamma g → (r z : ℕ) → r < 8380417 → z < 8380417 → IsNearZero g z → low_bits g r ≤ℤ pos 0
    → high_bits g r ≢ high_bits g ((r + z) % 8380417)
    → (high_bits g r + (high_count g - 1)) % high_count g ≡ high_bits g ((r + z) % 8380417)
high_bits-down g (inl is) = grind (arith, ints, common_steps, high_bits_below, decompose_sides)
high_bits-down g (inr is) = grind (arith, ints, common_steps, high_bits_below, decompose_sides)

-- a residue whose centred value is at most g in absolute value
near_zero : (g z : ℕ) → z < 8380417 → nat_abs (centred (pos z)) ≤ g → IsNearZero g z
near_zero g z small near = grind (arith, ints, common_steps, cases_lt, centred_is, lt-leb, le-leb)

hint_moves : (g z r : ℕ) → IsGamma g → r < 8380417 → z < 8380417 → IsNearZero g z
    → use_hint g (make_hint g z r) r ≡ high_bits g ((r + z) % 8380417)
unfolding use_hint
hint_moves g z r set below small near = grind (arith, ints, common_steps, cases_eq, eq-eqb, ne_eqb, by_lt_z, above, high_bits-up, not_above, high_bits-down)

pub use_hint_of_make_hint : (g z r : ℕ) → IsGamma g → r < 8380417 → z < 8380417 → nat_abs (centred (pos z)) ≤ g
    → use_hint g (make_hint g z r) r ≡ high_bits g ((r + z) % 8380417)
use_hint_of_make_hint g z r set below small near = hint_moves g z r set below small (near_zero g z small near)

-- a number at most n from 0 or from q has a centred value of at most n
size_near : (x n : ℕ) → x < 8380417 → n ≤ 4190208 → (n < x → 8380417 ≤ x + n) → nat_abs (centred_modulo 8380417 x) ≤ n
size_near x n small few near = grind (arith, ints, common_steps, cases_lt, lt-leb, le-leb)

difference : (a b : ℕ) → a < 8380417 → b < 8380417 → (residue (pos a -ℤ pos b) + b ≡ a) ⊎ (residue (pos a -ℤ pos b) + b ≡ a + 8380417)
difference a b p q = grind (arith, ints, common_steps, cases_lt)

far_none : (g : ℕ) → IsGamma g → (r u x : ℕ) → r < 8380417 → u ≡ high_bits g r
    → (x + u * (2 * g) ≡ r) ⊎ (x + u * (2 * g) ≡ r + 8380417) → x < 8380417 → g < x → 8380417 ≤ x + g
far_none g (inl is) = grind (arith, ints, common_steps, high_bits_below, decompose_sides)
far_none g (inr is) = grind (arith, ints, common_steps, high_bits_below, decompose_sides)

far_up : (g : ℕ) → IsGamma g → (r u x : ℕ) → r < 8380417 → pos 0 <ℤ low_bits g r → u ≡ (high_bits g r + 1) % high_count g
    → (x + u * (2 * g) ≡ r) ⊎ (x + u * (2 * g) ≡ r + 8380417) → x < 8380417 → 2 * g + 1 < x → 8380417 ≤ x + (2 * g + 1)
far_up g (inl is) = grind (arith, ints, common_steps, high_bits_below, decompose_sides)
far_up g (inr is) = grind (arith, ints, common_steps, high_bits_below, decompose_sides)

far_down : (g : ℕ) → IsGamma g → (r u x : ℕ) → r < 8380417 → low_bits g r ≤ℤ pos 0
    → u ≡ (high_bits g r + (high_count g - 1)) % high_count g
    → (x + u * (2 * g) ≡ r) ⊎ (x + u * (2 * g) ≡ r + 8380417) → x < 8380417 → 2 * g + 1 < x → 8380417 ≤ x + (2 * g + 1)
far_down g (inl is) = grind (arith, ints, common_steps, high_bits_below, decompose_sides)
far_down g (inr is) = grind (arith, ints, common_steps, high_bits_below, decompose_sides)

use_hint-moved_up : (g r : ℕ) → pos 0 <ℤ low_bits g r → use_hint g true r ≡ (high_bits g r + 1) % high_count g
unfolding use_hint
use_hint-moved_up g r low = rw (above (low_bits g r) low)

use_hint-moved_down : (g r : ℕ) → low_bits g r ≤ℤ pos 0 → use_hint g true r ≡ (high_bits g r + (high_count g - 1)) % high_count g
unfolding use_hint
use_hint-moved_down g r low = rw (not_above (low_bits g r) low)

use_hint-unmoved : (g r : ℕ) → use_hint g false r ≡ high_bits g r
unfolding use_hint
use_hint-unmoved g r = refl

-- high bits, moved or not, are below their number of values, and times 2 gamma2 below q
moved_few : (g r : ℕ) (hint : Bool) → 0 < high_count g → high_bits g r < high_count g → use_hint g hint r < high_count g
unfolding use_hint
moved_few g r false some few = few
moved_few g r true some few = grind (arith, ints, common_steps, by_lt_z, above, mod_below, not_above)

times_below : (g : ℕ) → IsGamma g → (u : ℕ) → u < high_count g → u * (2 * g) < 8380417
times_below g (inl is) = rw is (λ u few. omega (arith, few))
times_below g (inr is) = rw is (λ u few. omega (arith, few))

moved_below : (g r : ℕ) (hint : Bool) → IsGamma g → r < 8380417 → use_hint g hint r * (2 * g) < 8380417
moved_below g r hint set below = grind (arith, ints, common_steps, high_bits_below, times_below, moved_few)

-- r less its high bits, moved by no hint, times 2 gamma2 is at most gamma2 in size, and moved by a hint at most 2 gamma2 + 1
pub use_hint_distance_none : (g r : ℕ) → IsGamma g → r < 8380417
    → nat_abs (centred (pos r -ℤ pos (use_hint g false r * (2 * g)))) ≤ g
use_hint_distance_none g r set below =
    let u = use_hint g false r in
    let x = residue (pos r -ℤ pos (use_hint g false r * (2 * g))) in
    let small = residue_below (pos r -ℤ pos (use_hint g false r * (2 * g))) in
    let where_x = difference r (use_hint g false r * (2 * g)) below (moved_below g r false set below) in
    subst (λ y. nat_abs y ≤ g) (centred-modulo (pos r -ℤ pos (use_hint g false r * (2 * g))))
    (size_near x g small (omega (arith, set)) (far_none g set r u x below (use_hint-unmoved g r) where_x small))

pub use_hint_distance_hint : (g r : ℕ) → IsGamma g → r < 8380417
    → nat_abs (centred (pos r -ℤ pos (use_hint g true r * (2 * g)))) ≤ 2 * g + 1
use_hint_distance_hint g r set below =
    let u = use_hint g true r in
    let x = residue (pos r -ℤ pos (use_hint g true r * (2 * g))) in
    let small = residue_below (pos r -ℤ pos (use_hint g true r * (2 * g))) in
    let where_x = difference r (use_hint g true r * (2 * g)) below (moved_below g r true set below) in
    subst (λ y. nat_abs y ≤ 2 * g + 1) (centred-modulo (pos r -ℤ pos (use_hint g true r * (2 * g))))
    (size_near x (2 * g + 1) small (omega (arith, set))
    (by_lt_z (pos 0) (low_bits g r)
    (λ up. far_up g set r u x below up (use_hint-moved_up g r up) where_x small)
    (λ down. far_down g set r u x below down (use_hint-moved_down g r down) where_x small)))

high_bits-stay : (g : ℕ) → IsGamma g → (r s beta : ℕ) → r < 8380417 → s < 8380417 → IsNearZero beta s → nat_abs (low_bits g r) + beta < g
    → high_bits g ((r + s) % 8380417) ≡ high_bits g r
high_bits-stay g (inl is) = grind (arith, ints, common_steps, high_bits_below, decompose_sides)
high_bits-stay g (inr is) = grind (arith, ints, common_steps, high_bits_below, decompose_sides)

-- a sum with a small number keeps the high bits, where the low bits leave it room
pub high_bits_stay : (g r s beta : ℕ) → IsGamma g → r < 8380417 → s < 8380417 → nat_abs (centred (pos s)) ≤ beta
    → nat_abs (low_bits g r) + beta < g → high_bits g ((r + s) % 8380417) ≡ high_bits g r
high_bits_stay g r s beta set below small near room = high_bits-stay g set r s beta below small (near_zero beta s small near) room
