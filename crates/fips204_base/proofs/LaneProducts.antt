-- Products in Montgomery form of each lane with one factor.
use Rattle.std.proofs.Common.{◌≡◌, ℕ, zero, suc, ◌<◌, ◌≤◌, ◌+◌, ◌*◌, ◌-◌, ◌/◌, ◌%◌, ℤ, pos, negsuc, ◌+ℤ◌, ◌-ℤ◌, ◌*ℤ◌, neg_ℤ, List, [], ◌∷◌, map, length, get_or, arith, ap, sym, refl, ◌∙◌, to_z, of_z, lit<}
use Rattle.std.specs.Prelude.{nat_abs, unsigned_abs, replicate}
use Rattle.std.specs.Int.{int_rem_euclid, int_div_euclid, int_wrap, w32, w64}
use Rattle.std.proofs.lemmas.Int.{ints, to_z-of_z, of_z-to_z, to_z_pos, wrapping_mul_is, wrapping_sub-bits, int_wrap_fits, SFits-int_wrap, fits_signed_from_abs}
use lib.Signed.{shr_z, mag}
use borrow.Author.Differences.{up, down, product_is}
use lib.Lanes.{zip2}
use mir.Syntax.{wrap_sub, wrap_mul, shl, shr, signed}
use mir.Val.{SFits}
use borrow.Table.Row.{s_int}
use borrow.Rule.Simd.Lanes.{act2}
use Rattle.fips204_base.proofs.Residues.{product_bound, product_fits, wider}

-- ---- one lane
-- the lowest 32 bits of 64, with their sign
abbrev pub lowered : ℕ → ℕ
lowered n = act2 (shr signed) (s_int w64) (s_int w64) (s_int w64) (act2 shl (s_int w64) (s_int w64) (s_int w64) n 32) 32

-- what the code computes from a lane, with the factor and its companion as bits
abbrev pub taken : ℕ → ℕ → ℤ → ℕ
taken F G x =
    act2 wrap_sub (s_int w64) (s_int w64) (s_int w64)
    (act2 wrap_mul (s_int w64) (s_int w64) (s_int w64) (of_z w64 x) F)
    (act2 wrap_mul (s_int w64) (s_int w64) (s_int w64) (lowered (act2 wrap_mul (s_int w64) (s_int w64) (s_int w64) (of_z w64 x) G)) 8380417)

-- the number with these bits is 2^32 times the product, reduced
pub record Taken (x f : ℤ) (n : ℕ) : Type 0 where
  pub value : ℤ
  pub is : n ≡ of_z w64 (pos 4294967296 *ℤ value)
  pub small : nat_abs value ≤ 8380416
  pub low : ℤ
  pub sum : x *ℤ f ≡ pos 4294967296 *ℤ value +ℤ low *ℤ pos 8380417

wrap_is : (z : ℤ) → int_wrap w32 z ≡ to_z w32 (unsigned_abs (int_rem_euclid z (pos 4294967296)))
unfolding int_wrap
wrap_is z = refl

wrapped : (z : ℤ) → (m : ℤ) × (int_wrap w32 z ≡ z +ℤ m *ℤ pos 4294967296)
wrapped (pos n) = (neg_ℤ (pos ((n + 2147483648) / 4294967296)), wrap_is (pos n) ∙ grind (arith, ints))
wrapped (negsuc n) = (pos ((n + 2147483648) / 4294967296), wrap_is (negsuc n) ∙ grind (arith, ints))

-- x (h q) where h q is f and a multiple of 2^32
spread : (x f h k : ℤ) → h *ℤ pos 8380417 ≡ f +ℤ k *ℤ pos 4294967296 → x *ℤ h *ℤ pos 8380417 ≡ x *ℤ f +ℤ x *ℤ k *ℤ pos 4294967296
spread x f h k e =
    let flat : up h * 8380417 + down f + down k * 4294967296 ≡ down h * 8380417 + up f + up k * 4294967296 = omega (arith, ints, e) in
    let first : up x * (up h * 8380417 + down f + down k * 4294967296) ≡ up x * (down h * 8380417 + up f + up k * 4294967296) = ap (λ (n : ℕ). up x * n) flat in
    let second : down x * (up h * 8380417 + down f + down k * 4294967296) ≡ down x * (down h * 8380417 + up f + up k * 4294967296) = ap (λ (n : ℕ). down x * n) flat in
    let a = product_is x h in
    let b = product_is x f in
    let d = product_is x k in
    omega (arith, ints, first, second, a, b, d)

times_q : (t : ℤ) → SFits w32 t → (SFits w64 (t *ℤ pos 8380417)) × (nat_abs (t *ℤ pos 8380417) ≤ 17996808470921216)
times_q (pos n) f = (fits_signed_from_abs w64 _ (omega (arith, ints, f.sfits)), omega (arith, ints, f.sfits))
times_q (negsuc n) f = (fits_signed_from_abs w64 _ (omega (arith, ints, f.sfits)), omega (arith, ints, f.sfits))

-- ---- the two halves of a number of 64 bits
raised_word : (b u : ℕ) → b % 4294967296 ≡ u → b * 4294967296 % 18446744073709551616 ≡ u * 4294967296
raised_word b u e = omega (arith, e)

low_word : (p : ℤ) (u : ℕ) → SFits w64 p → int_rem_euclid p (pos 4294967296) ≡ pos u → of_z w64 p % 4294967296 ≡ u
low_word (pos m) u fp e = omega (arith, ints, e, fp.sfits)
low_word (negsuc m) u fp e = let f = fp.sfits in omega (arith, ints, e, f)

signed_word : (f : ℤ) (u : ℕ) → SFits w32 f → int_rem_euclid f (pos 4294967296) ≡ pos u → shr_z (to_z w64 (u * 4294967296)) 4294967296 ≡ f
signed_word (pos n) u ff e =
    let l = ff.sfits in
    let is : u ≡ n = omega (arith, ints, e, l) in
    let r : to_z w64 (n * 4294967296) ≡ pos (n * 4294967296) = to_z_pos w64 (n * 4294967296) (omega (arith, l)) in
    rw (is, r) (omega (arith, ints))
signed_word (negsuc n) u ff e =
    let l = ff.sfits in
    let k : ℕ = n * 4294967296 + 4294967295 in
    let is : u * 4294967296 ≡ 18446744073709551616 - suc k = omega (arith, ints, e, l) in
    let r : to_z w64 (18446744073709551616 - suc k) ≡ negsuc k = to_z-of_z w64 (negsuc k) (record { sfits = omega (arith, l) }) in
    rw (is, r) (omega (arith, ints))

pub remainder : (f : ℤ) → (u : ℕ) × (int_rem_euclid f (pos 4294967296) ≡ pos u) × (u < 4294967296)
remainder (pos n) = (n % 4294967296, refl, omega arith)
remainder (negsuc n) = (4294967295 - n % 4294967296, refl, omega arith)

-- the bits of the number of 32 bits that has the low half of p
pub lowered_is : (p f : ℤ) → SFits w64 p → SFits w32 f → int_rem_euclid p (pos 4294967296) ≡ int_rem_euclid f (pos 4294967296) → lowered (of_z w64 p) ≡ of_z w64 f
lowered_is p f fp ff e =
    let u = remainder f in
    let low = low_word p u.0 fp (e ∙ u.1) in
    ap (λ (n : ℕ). of_z w64 (shr_z (to_z w64 n) 4294967296)) (raised_word (of_z w64 p) u.0 low) ∙ ap (of_z w64) (signed_word f u.0 ff u.1)

high_word : (p h : ℤ) (u : ℕ) → u < 4294967296 → p ≡ h *ℤ pos 4294967296 +ℤ pos u → shr_z p 4294967296 ≡ h
high_word (pos m) h u l e = omega (arith, ints, e)
high_word (negsuc m) h u l e = omega (arith, ints, e)

pub upper_half : (p f h : ℤ) → SFits w64 p → p ≡ h *ℤ pos 4294967296 +ℤ int_rem_euclid f (pos 4294967296)
    → of_z w64 (shr_z (to_z w64 (of_z w64 p)) 4294967296) ≡ of_z w64 h
upper_half p f h fp e =
    let u = remainder f in
    rw (to_z-of_z w64 p fp, high_word p h u.0 u.2 (rw u.1 at e)) refl

divided : (z : ℤ) → z ≡ int_rem_euclid z (pos 4294967296) +ℤ int_div_euclid z (pos 4294967296) *ℤ pos 4294967296
divided (pos n) = omega (arith, ints)
divided (negsuc n) = omega (arith, ints)

-- a number of 64 bits is made of its high half, which has 32 bits, and of what its low half has
pub high_half_fits : (p : ℤ) → mag p < 9223372036854775808 → SFits w32 (int_div_euclid p (pos 4294967296))
high_half_fits (pos n) h = record { sfits = omega (arith, ints, h) }
high_half_fits (negsuc n) h = record { sfits = omega (arith, ints, h) }

pub joined_halves : (p f : ℤ) → int_rem_euclid p (pos 4294967296) ≡ int_rem_euclid f (pos 4294967296) → p ≡ int_div_euclid p (pos 4294967296) *ℤ pos 4294967296 +ℤ int_rem_euclid f (pos 4294967296)
joined_halves p f e =
    let d = divided p in
    omega (arith, ints, d, e)

-- two numbers with the same lowest 32 bits
pub same_word : (x y : ℤ) → int_rem_euclid x (pos 4294967296) ≡ int_rem_euclid y (pos 4294967296) → (k : ℤ) × (x ≡ y +ℤ k *ℤ pos 4294967296)
same_word x y e =
    let a = divided x in
    let b = divided y in
    (int_div_euclid x (pos 4294967296) -ℤ int_div_euclid y (pos 4294967296), omega (arith, ints, a, b, e))

-- a number that differs by a multiple of 2^32 has the same low half
same_low : (x y k : ℤ) → x ≡ y +ℤ k *ℤ pos 4294967296 → int_rem_euclid y (pos 4294967296) ≡ int_rem_euclid x (pos 4294967296)
same_low x y k e =
    let a = divided x in
    let b = divided y in
    let u = remainder x in
    let v = remainder y in
    omega (arith, ints, e, a, b, u.1, u.2, v.1, v.2)

-- the low half of 64 bits, with its sign
pub wrapped_low : (p : ℤ) → int_rem_euclid p (pos 4294967296) ≡ int_rem_euclid (int_wrap w32 p) (pos 4294967296)
wrapped_low p = let m = wrapped p in same_low (int_wrap w32 p) p m.0 m.1

pub wrapped_is : (p f : ℤ) → SFits w32 f → int_rem_euclid p (pos 4294967296) ≡ int_rem_euclid f (pos 4294967296) → int_wrap w32 p ≡ f
wrapped_is p f ff e = wrap_is p ∙ (ap (λ (z : ℤ). to_z w32 (unsigned_abs z)) e ∙ (sym (wrap_is f) ∙ int_wrap_fits w32 f ff))

pub low_of_pair : (p f h : ℤ) → p ≡ h *ℤ pos 4294967296 +ℤ int_rem_euclid f (pos 4294967296) → int_rem_euclid p (pos 4294967296) ≡ int_rem_euclid f (pos 4294967296)
low_of_pair p f h e =
    let a = divided p in
    let u = remainder p in
    let v = remainder f in
    omega (arith, ints, e, a, u.1, u.2, v.1, v.2)

high_of_multiple : (r : ℤ) → int_div_euclid (pos 4294967296 *ℤ r) (pos 4294967296) ≡ r
high_of_multiple r =
    let a = divided (pos 4294967296 *ℤ r) in
    let u = remainder (pos 4294967296 *ℤ r) in
    omega (arith, ints, a, u.1, u.2)

-- the difference is a multiple of 2^32
whole_is : (xf xh xk t m : ℤ) → xh *ℤ pos 8380417 ≡ xf +ℤ xk *ℤ pos 4294967296 → t ≡ xh +ℤ m *ℤ pos 4294967296
    → xf -ℤ t *ℤ pos 8380417 ≡ pos 4294967296 *ℤ neg_ℤ (xk +ℤ m *ℤ pos 8380417)
whole_is xf xh xk t m all e = omega (arith, ints, all, e)

whole_small : (xf tq r : ℤ) → nat_abs xf ≤ 17996806323437568 → nat_abs tq ≤ 17996808470921216 → xf -ℤ tq ≡ pos 4294967296 *ℤ r → nat_abs r ≤ 8380416
whole_small xf tq r a b e = omega (arith, ints, a, b, e)

whole_sum : (xf tq r : ℤ) → xf -ℤ tq ≡ pos 4294967296 *ℤ r → xf ≡ pos 4294967296 *ℤ r +ℤ tq
whole_sum xf tq r e = omega (arith, ints, e)

whole_fits : (xf tq : ℤ) → nat_abs xf ≤ 17996806323437568 → nat_abs tq ≤ 17996808470921216 → SFits w64 (xf -ℤ tq)
whole_fits xf tq a b = fits_signed_from_abs w64 _ (omega (arith, ints, a, b))

pub taken_is : (x f h k : ℤ) (F G : ℕ) → SFits w32 x → SFits w32 f → SFits w32 h → nat_abs f ≤ 8380416 → h *ℤ pos 8380417 ≡ f +ℤ k *ℤ pos 4294967296
    → F ≡ of_z w64 f → G ≡ of_z w64 h → Taken x f (taken F G x)
taken_is x f h k F G fx ff fh bound e eF eG =
    let t : ℤ = int_wrap w32 (x *ℤ h) in
    let ft : SFits w32 t = SFits-int_wrap w32 (x *ℤ h) in
    let m = wrapped (x *ℤ h) in
    let big = product_bound x f fx bound in
    let fit1 : SFits w64 (x *ℤ f) = fits_signed_from_abs w64 _ (omega (arith, big)) in
    let fit0 : SFits w64 (x *ℤ h) = product_fits x h fx fh in
    let tq = times_q t ft in
    let n0 : ℕ = of_z w64 x * of_z w64 h % 18446744073709551616 in
    let n1 : ℕ = of_z w64 x * of_z w64 f % 18446744073709551616 in
    let n2 : ℕ = of_z w64 t * 8380417 % 18446744073709551616 in
    let e0 : to_z w64 n0 ≡ x *ℤ h = wrapping_mul_is w64 x h (wider x fx) (wider h fh) ∙ int_wrap_fits w64 _ fit0 in
    let bits0 : n0 ≡ of_z w64 (x *ℤ h) = sym (of_z-to_z w64 n0 (omega arith)) ∙ ap (of_z w64) e0 in
    let low : lowered n0 ≡ of_z w64 t = ap lowered bits0 ∙ lowered_is (x *ℤ h) t fit0 ft (same_low t (x *ℤ h) m.0 m.1) in
    let e1 : to_z w64 n1 ≡ x *ℤ f = wrapping_mul_is w64 x f (wider x fx) (wider f ff) ∙ int_wrap_fits w64 _ fit1 in
    let e2 : to_z w64 n2 ≡ t *ℤ pos 8380417 = wrapping_mul_is w64 t (pos 8380417) (wider t ft) (record { sfits = lit< tt }) ∙ int_wrap_fits w64 _ tq.0 in
    let d : ℤ = x *ℤ f -ℤ t *ℤ pos 8380417 in
    let fit3 : SFits w64 d = whole_fits (x *ℤ f) (t *ℤ pos 8380417) big tq.1 in
    let n3 : ℕ = (n1 + (18446744073709551616 - n2)) % 18446744073709551616 in
    let e3 : to_z w64 n3 ≡ d =
    wrapping_sub-bits w64 n1 n2 (omega arith) (omega arith) ∙ (ap (λ (z : ℤ). int_wrap w64 z) (ap (λ (z : ℤ). z -ℤ to_z w64 n2) e1 ∙ ap (λ (z : ℤ). x *ℤ f -ℤ z) e2) ∙ int_wrap_fits w64 d fit3) in
    let r : ℤ = neg_ℤ (x *ℤ k +ℤ m.0 *ℤ pos 8380417) in
    let all = spread x f h k e in
    let whole : d ≡ pos 4294967296 *ℤ r = whole_is (x *ℤ f) (x *ℤ h) (x *ℤ k) t m.0 all m.1 in
    let bits3 : n3 ≡ of_z w64 (pos 4294967296 *ℤ r) = sym (of_z-to_z w64 n3 (omega arith)) ∙ ap (of_z w64) (e3 ∙ whole) in
    record {
      value = r;
      is = rw (eF, eG, low) bits3;
      small = whole_small (x *ℤ f) (t *ℤ pos 8380417) r big tq.1 whole;
      low = t;
      sum = whole_sum (x *ℤ f) (t *ℤ pos 8380417) r whole;
    }

-- ---- all lanes
abbrev pub lows : ℕ → List ℕ → List ℕ
lows n l = zip2 (act2 (shr signed) (s_int w64) (s_int w64) (s_int w64)) (zip2 (act2 shl (s_int w64) (s_int w64) (s_int w64)) l (replicate n 32)) (replicate n 32)

-- what a clause says the code computes
abbrev pub row : ℕ → ℕ → ℕ → List ℤ → List ℕ
row n F G xs =
    zip2 (act2 wrap_sub (s_int w64) (s_int w64) (s_int w64))
    (zip2 (act2 wrap_mul (s_int w64) (s_int w64) (s_int w64)) (map (of_z w64) xs) (replicate n F))
    (zip2 (act2 wrap_mul (s_int w64) (s_int w64) (s_int w64)) (lows n (zip2 (act2 wrap_mul (s_int w64) (s_int w64) (s_int w64)) (map (of_z w64) xs) (replicate n G))) (replicate n 8380417))

pub row_is : (n F G : ℕ) (xs : List ℤ) → length xs ≡ n → row n F G xs ≡ map (taken F G) xs
row_is n F G [] e = refl
row_is zero F G (x ∷ xs) e = absurd (omega (arith, e))
row_is (suc n) F G (x ∷ xs) e = ap (λ l. taken F G x ∷ l) (row_is n F G xs (omega (arith, e)))

pub read_at : (g : ℤ → ℕ) (ps : List ℤ) (j : ℕ) → j < length ps → get_or (map (to_z w64) (map g ps)) j (pos 0) ≡ to_z w64 (g (get_or ps j (pos 0)))
read_at g [] j h = absurd (omega (arith, h))
read_at g (p ∷ ps) zero h = refl
read_at g (p ∷ ps) (suc j) h = read_at g ps j (omega (arith, h))

pub taken_fits : (x f : ℤ) (n : ℕ) → Taken x f n → SFits w64 (to_z w64 n)
taken_fits x f n t =
    let small = t.small in
    let fit : SFits w64 (pos 4294967296 *ℤ t.value) = fits_signed_from_abs w64 _ (omega (arith, ints, small)) in
    rw (t.is, to_z-of_z w64 (pos 4294967296 *ℤ t.value) fit) fit

-- the high half of a product that was taken
pub taken_high : (x f : ℤ) (n : ℕ) (t : Taken x f n) → int_div_euclid (to_z w64 n) (pos 4294967296) ≡ t.value
taken_high x f n t =
    let small = t.small in
    let fit : SFits w64 (pos 4294967296 *ℤ t.value) = fits_signed_from_abs w64 _ (omega (arith, ints, small)) in
    rw (t.is, to_z-of_z w64 (pos 4294967296 *ℤ t.value) fit) (high_of_multiple t.value)
