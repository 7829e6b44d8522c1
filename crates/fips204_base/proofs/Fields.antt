-- How many bits a number has, and the field of a coefficient.
use Rattle.std.proofs.Common.{◌≡◌, ℕ, true, false, cond, nat_le, zero, suc, ◌+◌, ◌*◌, ◌^◌, ◌<◌, ◌≤◌, List, [], ◌∷◌, ◌++◌, ℤ, pos, ◌+ℤ◌, ◌-ℤ◌, ◌≤ℤ◌, ◌<ℤ◌, nat_abs, length, take, set, map, refl, ap, sym, ◌∙◌, subst, arith, append-nil, ◌⊎◌, inl, inr}
use Rattle.std.specs.List.{All, Any, range_with_len, count_by}
use Rattle.std.specs.Int.{leading_zeros, w32}
use Rattle.std.proofs.lemmas.Bool.{cases_lt}
use Rattle.std.proofs.lemmas.Bool.Decides.{nat_tests}
use Rattle.std.proofs.lemmas.Int.{ints, by_lt_z}
use Rattle.std.proofs.lemmas.List.{take_more_set, map_push, take_all}
use Rattle.std.proofs.lemmas.List.Sums.{sum_by-cons}
use Rattle.std.proofs.lemmas.List.Elements.{All-map, All-weaker, All-push, All-nil, All-cons, All-head, All-tail}
use Rattle.std.proofs.lemmas.Nat.{leading_length}
use Rattle.std.proofs.Math.Nat.{pow-succ', pow-le-pow_right}
use Rattle.fips204_base.specs.Packing.{bit_length, bits, integer_to_bits, width}
use Rattle.fips204_base.specs.Bounds.{Bounds, PolynomialInRange}
use Rattle.fips204_base.specs.EncodingSteps.{Packs, coefficient, field}
use Rattle.fips204_base.proofs.Bits.{digits-zero}
use Rattle.std.proofs.lemmas.Grind.{common_steps}

-- the powers of two that are at most a number of c digits, counted from 2 ^ s on

powers_none : (x c s n : ℕ) → x < 2 ^ c → c ≤ s → count_by (λ k. nat_le (2 ^ k) x) (range_with_len s n) ≡ 0
powers_none x c s zero small past = refl
powers_none x c s (suc n) small past =
    let above : 2 ^ c ≤ 2 ^ s = pow-le-pow_right (omega arith) {i = c} {j = s} past in
    let here : nat_le (2 ^ s) x ≡ false = grind (arith, nat_tests) in
    sum_by-cons (λ k. cond (nat_le (2 ^ k) x) 1 0) s (range_with_len (s + 1) n) ∙ rw here (omega (arith, powers_none x c (s + 1) n small (omega arith)))

powers_from : (x c s n : ℕ) → x < 2 ^ c → 2 ^ c ≤ 2 * x + 1 → s ≤ c → c ≤ s + n → s + count_by (λ k. nat_le (2 ^ k) x) (range_with_len s n) ≡ c
powers_from x c s zero small large past room = omega arith
powers_from x c s (suc n) small large past room = elim (cases_lt s c) [
  | inl below ↦
      let power : 2 ^ suc s ≤ 2 ^ c = pow-le-pow_right (omega arith) {i = suc s} {j = c} (omega arith) in
      let twice : 2 ^ suc s ≡ 2 * 2 ^ s = pow-succ' 2 s in
      let le : 2 ^ s ≤ x = omega (arith, power, twice) in
      let here : nat_le (2 ^ s) x ≡ true = grind (arith, nat_tests) in
      let rest = powers_from x c (s + 1) n small large (omega arith) (omega arith) in
      let all = sum_by-cons (λ k. cond (nat_le (2 ^ k) x) 1 0) s (range_with_len (s + 1) n) in
      let more = rw here at all in
      omega (arith, more, rest)
  | inr none ↦ omega (arith, powers_none x c s (suc n) small none)
]

pub bit_length-unique : (n c : ℕ) → c ≤ 32 → n < 2 ^ c → 2 ^ c ≤ 2 * n + 1 → bit_length n ≡ c
unfolding bit_length
bit_length-unique n c few low high = let all = powers_from n c 0 32 low high (omega arith) (omega arith) in omega (arith, all)

pub bit_length-leading : (n : ℕ) → n < 2 ^ 32 → bit_length n + leading_zeros w32 n ≡ 32
bit_length-leading n h =
    let m = leading_length 32 n h in
    let e = bit_length-unique n m.0 (omega (arith, m.1)) m.2 m.3 in
    omega (arith, e, m.1)

pub bit_length-below : (n : ℕ) → n < 2 ^ 32 → n < 2 ^ bit_length n
bit_length-below n h =
    let m = leading_length 32 n h in
    rw (bit_length-unique n m.0 (omega (arith, m.1)) m.2 m.3) m.2

pub bit_length-le : (n c : ℕ) → c ≤ 32 → n < 2 ^ c → bit_length n ≤ c
bit_length-le n c few h =
    let power : 2 ^ c ≤ 2 ^ 32 = pow-le-pow_right (omega arith) {i = c} {j = 32} few in
    let m = leading_length 32 n (omega (arith, power)) in
    let e = bit_length-unique n m.0 (omega (arith, m.1)) m.2 m.3 in
    elim (cases_lt c m.0) [
      | inl big ↦ let more : 2 ^ suc c ≤ 2 ^ m.0 = pow-le-pow_right (omega arith) {i = suc c} {j = m.0} (omega arith) in absurd (omega (arith, more, pow-succ' 2 c, m.3))
      | inr fits ↦ rw e fits
    ]

pub bit_length-some : (n : ℕ) → 1 ≤ n → n < 2 ^ 32 → 1 ≤ bit_length n
bit_length-some n h k = elim (cases_lt 0 (bit_length n)) [
  | inl some ↦ some
  | inr none ↦
      let z : bit_length n ≡ 0 = omega arith in
      let l : n < 2 ^ 0 = subst (λ c. n < 2 ^ c) z (bit_length-below n k) in
      absurd (omega (arith, l))
]

-- widths

pub width-le : (a b : ℤ) → Bounds a b → width a b ≤ 21
width-le a b bounds = bit_length-le (nat_abs (a +ℤ b)) 21 (omega arith) (omega (arith, ints, bounds))

pub width-some : (a b : ℤ) → Bounds a b → 1 ≤ width a b
width-some a b bounds = bit_length-some (nat_abs (a +ℤ b)) (omega (arith, ints, bounds)) (omega (arith, ints, bounds))

pub width-below : (a b : ℤ) (n : ℕ) → Bounds a b → n ≤ nat_abs (a +ℤ b) → n < 2 ^ width a b
width-below a b n bounds h = grind (arith, ints, common_steps, bit_length-below)

-- the coefficient is that of a field of so many bits
abbrev pub HasField : ℤ → ℤ → ℤ → Type 0
HasField a b x = (field a b x < 2 ^ width a b) × (coefficient a b (field a b x) ≡ x)

pub field-le : (a b x : ℤ) → Bounds a b → (pos 0 -ℤ a) ≤ℤ x → x ≤ℤ b → field a b x ≤ nat_abs (a +ℤ b)
unfolding field
field-le a b x bounds low high = grind (arith, ints, bounds)

pub coefficient-field : (a b x : ℤ) → Bounds a b → (pos 0 -ℤ a) ≤ℤ x → x ≤ℤ b → coefficient a b (field a b x) ≡ x
unfolding field coefficient
coefficient-field a b x bounds low high = grind (arith, ints, bounds)

pub field-coefficient : (a b : ℤ) (f : ℕ) → field a b (coefficient a b f) ≡ f
unfolding field coefficient
field-coefficient a b f = grind (arith, ints)

-- the coefficient of a field is stored after the ones before it
pub stored : (a b : ℤ) (f at : ℕ) (out : List ℤ) (z : ℤ) → at < length out → z ≡ coefficient a b f → f < 2 ^ width a b → All (HasField a b) (take at out)
    → (map (field a b) (take (at + 1) (set out at z)) ≡ map (field a b) (take at out) ++ f ∷ []) × All (HasField a b) (take (at + 1) (set out at z))
stored a b f at out z room e small before = grind (arith, ints, common_steps, take_more_set, field-coefficient, map_push, All-push)

pub fields_fit : (a b : ℤ) (w : List ℤ) → Bounds a b → PolynomialInRange (pos 0 -ℤ a) b w → All (λ f. f < 2 ^ width a b) (map (field a b) w)
fields_fit a b w bounds range =
    All-map (λ f. f < 2 ^ width a b) (field a b) w (All-weaker (λ (x : ℤ). ((pos 0 -ℤ a) ≤ℤ x) × (x ≤ℤ b)) (λ (x : ℤ). field a b x < 2 ^ width a b)
    (λ x r. width-below a b (field a b x) bounds (field-le a b x bounds r.0 r.1)) w range)

-- the bytes and fields of a finished group of eight
pub group_finished : (a b : ℤ) (c i have at word : ℕ) (out : List ℤ) (v : List ℕ) → c ≡ width a b → i ≡ 8 → length out ≡ 8 → c * i + have ≡ 8 * at → have < 8 → length v ≡ c → All (λ byte. byte < 256) v
    → bits c (map (field a b) (take i out)) ++ integer_to_bits have word ≡ bits 8 (take at v) → All (HasField a b) (take i out)
    → Packs (width a b) v (map (field a b) out) × All (λ x. coefficient a b (field a b x) ≡ x) out
group_finished a b c i have at word out v w eight long done few whole bytes same fields =
    let n : c * i ≡ c * 8 = ap (λ k. c * k) eight in
    let none : have ≡ 0 = omega (arith, done, n, few) in
    let kept : take i out ≡ out = take_all i out (omega arith) in
    let read : take at v ≡ v = take_all at v (omega (arith, done, n, whole)) in
    let bits_same = rw (none, digits-zero word, append-nil, kept, read, w) at same in
    let have_fields : All (HasField a b) out = rw kept at fields in (
      record {
        same_bits = sym bits_same;
        small_bytes = bytes;
        small_fields = All-map (λ f. f < 2 ^ width a b) (field a b) out (All-weaker (HasField a b) (λ (x : ℤ). field a b x < 2 ^ width a b) (λ x h. h.0) out have_fields);
      },
      All-weaker (HasField a b) (λ (x : ℤ). coefficient a b (field a b x) ≡ x) (λ x h. h.1) out have_fields,
    )

Any-cons : (P : ℤ → Type 0) (y : ℤ) (xs : List ℤ) → Any P xs → Any P (y ∷ xs)
Any-cons P y xs h = (suc h.0, h.1, omega (arith, h.2), h.3, h.4)

-- the coefficient of a field is not below 0 where a is 0
not_below : (b x : ℤ) → coefficient (pos 0) b (field (pos 0) b x) ≡ x → pos 0 ≤ℤ x
unfolding field coefficient
not_below b x same = omega (arith, ints, same)

-- where a is 0 the coefficients are in range, or one is above b
in_range_or_above : (b : ℤ) (w : List ℤ) → All (λ x. coefficient (pos 0) b (field (pos 0) b x) ≡ x) w → PolynomialInRange (pos 0) b w ⊎ Any (λ x. b <ℤ x) w
in_range_or_above b [] h = inl (All-nil (λ (x : ℤ). (pos 0 ≤ℤ x) × (x ≤ℤ b)))
in_range_or_above b (x ∷ w) h = by_lt_z b x
    (λ above. inr (0, x, omega arith, refl, above))
    (λ within. elim (in_range_or_above b w (All-tail (λ (y : ℤ). coefficient (pos 0) b (field (pos 0) b y) ≡ y) x w h)) [
      | inl rest ↦ inl (All-cons (λ (y : ℤ). (pos 0 ≤ℤ y) × (y ≤ℤ b)) x w (not_below b x (All-head (λ (y : ℤ). coefficient (pos 0) b (field (pos 0) b y) ≡ y) x w h), within) rest)
      | inr some ↦ inr (Any-cons (λ (y : ℤ). b <ℤ y) x w some)
    ])

-- so where they are not in range, one is above b
pub one_above : (a b : ℤ) (w : List ℤ) → a ≡ pos 0 → All (λ x. coefficient a b (field a b x) ≡ x) w → (PolynomialInRange (pos 0) b w → ⊥) → Any (λ x. b <ℤ x) w
one_above a b w none h outside = elim (in_range_or_above b w (subst (λ a. All (λ x. coefficient a b (field a b x) ≡ x) w) none h)) [
  | inl inside ↦ absurd (outside inside)
  | inr some ↦ some
]
