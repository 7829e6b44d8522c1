-- Numbers of 64 bits as lanes of their halves, and back.
use Rattle.std.proofs.Common.{◌≡◌, ℕ, zero, suc, ◌<◌, ◌+◌, ◌*◌, ◌/◌, ◌%◌, ◌^◌, ◌-◌, ℤ, pos, negsuc, ◌+ℤ◌, ◌*ℤ◌, List, [], ◌∷◌, map, length, get_or, arith, ap, sym, refl, ◌∙◌, to_z, of_z}
use Rattle.std.specs.Int.{int_div_euclid, int_rem_euclid, w32, w64}
use Rattle.std.proofs.lemmas.Int.{ints, to_z-of_z, to_z_pos}
use Rattle.std.proofs.Math.Nat.{pow-suc}
use lib.Lanes.{number_l, digits_l, zip2}
use lib.Signed.{shr_z}
use mir.Syntax.{shr, signed}
use borrow.Table.Row.{s_int}
use borrow.Rule.Simd.Lanes.{act2}
use Rattle.std.specs.Prelude.{replicate}
use Rattle.fips204_base.proofs.Residues.{wider}
use mir.Val.{SFits}
use Rattle.fips204_base.proofs.LaneProducts.{high_half_fits, lowered, lowered_is, lows, low_of_pair, remainder, upper_half}

-- bytes are read back as the number that they are of
rejoined : (n x : ℕ) → x < 256 ^ n → number_l 256 (digits_l 256 n x) ≡ x
rejoined zero x h = omega (arith, h)
rejoined (suc n) x h =
    let p = pow-suc 256 n in
    let rest = rejoined n (x / 256) (omega (arith, h, p)) in
    omega (arith, rest)

-- ---- one lane
wide_below : (p : ℤ) → SFits w64 p → of_z w64 p < 18446744073709551616
wide_below (pos n) f = omega (arith, f.sfits)
wide_below (negsuc n) f = omega arith

high_bits : (p : ℤ) (h : ℤ) → SFits w64 p → SFits w32 h → h ≡ int_div_euclid p (pos 4294967296) → of_z w32 h ≡ of_z w64 p / 4294967296
high_bits (pos n) h fp fh e = rw e (omega (arith, ints, fp.sfits))
high_bits (negsuc n) h fp fh e = rw e (omega (arith, ints, fp.sfits))

read_high : (p : ℤ) → SFits w64 p → to_z w32 (of_z w64 p / 4294967296) ≡ int_div_euclid p (pos 4294967296)
read_high p f =
    let h = int_div_euclid p (pos 4294967296) in
    let fits : SFits w32 h = high_half_fits p f.sfits in
    ap (to_z w32) (sym (high_bits p h f fits refl)) ∙ to_z-of_z w32 h fits

-- ---- all lanes
wides_below : (ps : List ℤ) → ((j : ℕ) → j < length ps → SFits w64 (get_or ps j (pos 0))) → number_l 18446744073709551616 (map (of_z w64) ps) < 18446744073709551616 ^ length ps
wides_below [] f = omega arith
wides_below (x ∷ xs) f =
    let p = pow-suc 18446744073709551616 (length xs) in
    let rest = wides_below xs (λ j h. f (suc j) (omega (arith, h))) in
    let below = wide_below x (f zero (omega arith)) in
    omega (arith, p, rest, below)

abbrev twofold : ℕ → ℕ
twofold zero = zero
twofold (suc n) = suc (suc (twofold n))

high_digit : (n : ℕ) (ps : List ℤ) → length ps ≡ n → ((j : ℕ) → j < length ps → SFits w64 (get_or ps j (pos 0))) → (j : ℕ) → j < n
    → get_or (map (to_z w32) (digits_l 4294967296 (twofold n) (number_l 18446744073709551616 (map (of_z w64) ps)))) (2 * j + 1) (pos 0) ≡ int_div_euclid (get_or ps j (pos 0)) (pos 4294967296)
high_digit zero ps e f j h = absurd (omega (arith, h))
high_digit (suc n) [] e f j h = absurd (omega (arith, e))
high_digit (suc n) (p ∷ ps) e f zero h =
    let rest = number_l 18446744073709551616 (map (of_z w64) ps) in
    let below = wide_below p (f zero (omega arith)) in
    let same : (of_z w64 p + 18446744073709551616 * rest) / 4294967296 % 4294967296 ≡ of_z w64 p / 4294967296 = omega (arith, below) in
    ap (to_z w32) same ∙ read_high p (f zero (omega arith))
high_digit (suc n) (p ∷ ps) e f (suc j) h =
    let rest = number_l 18446744073709551616 (map (of_z w64) ps) in
    let below = wide_below p (f zero (omega arith)) in
    let whole : ℕ = of_z w64 p + 18446744073709551616 * rest in
    let same : whole / 4294967296 / 4294967296 ≡ rest = omega (arith, below) in
    ap (λ (k : ℕ). get_or (map (to_z w32) (digits_l 4294967296 (suc (suc (twofold n))) whole)) k (pos 0)) (after j)
    ∙ ap (λ (m : ℕ). get_or (map (to_z w32) (digits_l 4294967296 (twofold n) m)) (2 * j + 1) (pos 0)) same
    ∙ high_digit n ps (omega (arith, e)) (λ i l. f (suc i) (omega (arith, l))) j (omega (arith, h))
  where
    after : (j : ℕ) → 2 * suc j + 1 ≡ suc (suc (2 * j + 1))
    after j = omega arith

pub parted : (ps : List ℤ) → length ps ≡ 4 → ((j : ℕ) → j < 4 → SFits w64 (get_or ps j (pos 0))) → (j : ℕ) → j < 4
    → get_or (map (to_z w32) (digits_l 4294967296 8 (number_l 256 (digits_l 256 32 (number_l 18446744073709551616 (map (of_z w64) ps)))))) (2 * j + 1) (pos 0) ≡ int_div_euclid (get_or ps j (pos 0)) (pos 4294967296)
parted ps e f j h =
    let fits : (j : ℕ) → j < length ps → SFits w64 (get_or ps j (pos 0)) = λ j l. f j (omega (arith, l, e)) in
    let n = number_l 18446744073709551616 (map (of_z w64) ps) in
    let below : n < 256 ^ 32 = rw e at (wides_below ps fits) in
    ap (λ (m : ℕ). get_or (map (to_z w32) (digits_l 4294967296 8 m)) (2 * j + 1) (pos 0)) (rejoined 32 n below)
    ∙ high_digit 4 ps e fits j h

-- ---- and back
word_below : (x : ℤ) → SFits w32 x → of_z w32 x < 4294967296
word_below (pos n) f = omega (arith, f.sfits)
word_below (negsuc n) f = omega arith

words_below : (xs : List ℤ) → ((j : ℕ) → j < length xs → SFits w32 (get_or xs j (pos 0))) → number_l 4294967296 (map (of_z w32) xs) < 4294967296 ^ length xs
words_below [] f = omega arith
words_below (x ∷ xs) f =
    let p = pow-suc 4294967296 (length xs) in
    let rest = words_below xs (λ j h. f (suc j) (omega (arith, h))) in
    let below = word_below x (f zero (omega arith)) in
    omega (arith, p, rest, below)

-- two words as one number
abbrev pub pair : ℤ → ℤ → ℤ
pair a b = b *ℤ pos 4294967296 +ℤ int_rem_euclid a (pos 4294967296)

low_bits : (a : ℤ) → SFits w32 a → int_rem_euclid a (pos 4294967296) ≡ pos (of_z w32 a)
low_bits (pos n) f = omega (arith, ints, f.sfits)
low_bits (negsuc n) f = omega (arith, ints, f.sfits)

joined : (u : ℕ) (b : ℤ) → u < 4294967296 → SFits w32 b → to_z w64 (u + 4294967296 * of_z w32 b) ≡ b *ℤ pos 4294967296 +ℤ pos u
joined u (pos m) l f = let s = f.sfits in to_z_pos w64 (u + 4294967296 * m) (omega (arith, s, l)) ∙ omega (arith, ints)
joined u (negsuc m) l f =
    let s = f.sfits in
    let k : ℕ = suc m * 4294967296 - suc u in
    let is : u + 4294967296 * (4294967296 - suc m) ≡ 18446744073709551616 - suc k = omega (arith, s, l) in
    ap (to_z w64) is ∙ (to_z-of_z w64 (negsuc k) (record { sfits = omega (arith, s, l) }) ∙ omega (arith, ints, l))

joined_at : (n : ℕ) (xs : List ℤ) → length xs ≡ twofold n → ((j : ℕ) → j < length xs → SFits w32 (get_or xs j (pos 0))) → (j : ℕ) → j < n
    → get_or (map (to_z w64) (digits_l 18446744073709551616 n (number_l 4294967296 (map (of_z w32) xs)))) j (pos 0) ≡ pair (get_or xs (2 * j) (pos 0)) (get_or xs (2 * j + 1) (pos 0))
joined_at zero xs e f j h = absurd (omega (arith, h))
joined_at (suc n) [] e f j h = absurd (omega (arith, e))
joined_at (suc n) (a ∷ []) e f j h = absurd (omega (arith, e))
joined_at (suc n) (a ∷ b ∷ xs) e f zero h =
    let rest = number_l 4294967296 (map (of_z w32) xs) in
    let fa = f 0 (omega arith) in
    let fb = f 1 (omega arith) in
    let low = word_below a fa in
    let high = word_below b fb in
    let same : (of_z w32 a + 4294967296 * (of_z w32 b + 4294967296 * rest)) % 18446744073709551616 ≡ of_z w32 a + 4294967296 * of_z w32 b = omega (arith, low, high) in
    ap (to_z w64) same ∙ (joined (of_z w32 a) b low fb ∙ ap (λ (z : ℤ). b *ℤ pos 4294967296 +ℤ z) (sym (low_bits a fa)))
joined_at (suc n) (a ∷ b ∷ xs) e f (suc j) h =
    let rest = number_l 4294967296 (map (of_z w32) xs) in
    let low = word_below a (f 0 (omega arith)) in
    let high = word_below b (f 1 (omega arith)) in
    let same : (of_z w32 a + 4294967296 * (of_z w32 b + 4294967296 * rest)) / 18446744073709551616 ≡ rest = omega (arith, low, high) in
    ap (λ (m : ℕ). get_or (map (to_z w64) (digits_l 18446744073709551616 n m)) j (pos 0)) same
    ∙ (joined_at n xs (omega (arith, e)) (λ i l. f (suc (suc i)) (omega (arith, l))) j (omega (arith, h))
    ∙ (ap (λ (k : ℕ). pair (get_or (a ∷ b ∷ xs) k (pos 0)) (get_or xs (2 * j + 1) (pos 0))) (even j)
    ∙ ap (λ (k : ℕ). pair (get_or (a ∷ b ∷ xs) (2 * suc j) (pos 0)) (get_or (a ∷ b ∷ xs) k (pos 0))) (odd j)))
  where
    even : (j : ℕ) → suc (suc (2 * j)) ≡ 2 * suc j
    even j = omega arith

    odd : (j : ℕ) → suc (suc (2 * j + 1)) ≡ 2 * suc j + 1
    odd j = omega arith

pub paired : (xs : List ℤ) → length xs ≡ 8 → ((j : ℕ) → j < 8 → SFits w32 (get_or xs j (pos 0))) → (j : ℕ) → j < 4
    → get_or (map (to_z w64) (digits_l 18446744073709551616 4 (number_l 256 (digits_l 256 32 (number_l 4294967296 (map (of_z w32) xs)))))) j (pos 0) ≡ pair (get_or xs (2 * j) (pos 0)) (get_or xs (2 * j + 1) (pos 0))
paired xs e f j h =
    let fits : (j : ℕ) → j < length xs → SFits w32 (get_or xs j (pos 0)) = λ j l. f j (omega (arith, l, e)) in
    let n = number_l 4294967296 (map (of_z w32) xs) in
    let below : n < 256 ^ 32 = rw e at (words_below xs fits) in
    ap (λ (m : ℕ). get_or (map (to_z w64) (digits_l 18446744073709551616 4 m)) j (pos 0)) (rejoined 32 n below)
    ∙ joined_at 4 xs e fits j h

-- ---- the halves of such a number, as numbers of 64 bits
wide_fits : (p h : ℤ) (u : ℕ) → u < 4294967296 → SFits w32 h → p ≡ h *ℤ pos 4294967296 +ℤ pos u → SFits w64 p
wide_fits (pos n) (pos m) u l f e = let s = f.sfits in record { sfits = omega (arith, ints, e, s, l) }
wide_fits (pos n) (negsuc m) u l f e = let s = f.sfits in record { sfits = omega (arith, ints, e, s, l) }
wide_fits (negsuc n) (pos m) u l f e = let s = f.sfits in record { sfits = omega (arith, ints, e, s, l) }
wide_fits (negsuc n) (negsuc m) u l f e = let s = f.sfits in record { sfits = omega (arith, ints, e, s, l) }

module _ (p a b : ℤ) (fa : SFits w32 a) (fb : SFits w32 b) (e : p ≡ pair a b) where
  fits : SFits w64 p
  fits = let u = remainder a in wide_fits p b u.0 u.2 fb (rw u.1 at e)

  pub low_read : to_z w64 (lowered (of_z w64 p)) ≡ a
  low_read = ap (to_z w64) (lowered_is p a fits fa (low_of_pair p a b e)) ∙ to_z-of_z w64 a (wider a fa)

  pub high_read : to_z w64 (of_z w64 (shr_z (to_z w64 (of_z w64 p)) 4294967296)) ≡ b
  high_read = ap (to_z w64) (upper_half p a b fits e) ∙ to_z-of_z w64 b (wider b fb)

abbrev pub highs : ℕ → List ℕ → List ℕ
highs n l = zip2 (act2 (shr signed) (s_int w64) (s_int w64) (s_int w64)) l (replicate n 32)

pub low_at : (n : ℕ) (ps : List ℤ) (j : ℕ) → length ps ≡ n → j < n → get_or (map (to_z w64) (lows n (map (of_z w64) ps))) j (pos 0) ≡ to_z w64 (lowered (of_z w64 (get_or ps j (pos 0))))
low_at zero ps j e h = absurd (omega (arith, h))
low_at (suc n) [] j e h = absurd (omega (arith, e))
low_at (suc n) (p ∷ ps) zero e h = refl
low_at (suc n) (p ∷ ps) (suc j) e h = low_at n ps j (omega (arith, e)) (omega (arith, h))

pub high_at : (n : ℕ) (ps : List ℤ) (j : ℕ) → length ps ≡ n → j < n
    → get_or (map (to_z w64) (highs n (map (of_z w64) ps))) j (pos 0) ≡ to_z w64 (of_z w64 (shr_z (to_z w64 (of_z w64 (get_or ps j (pos 0)))) 4294967296))
high_at zero ps j e h = absurd (omega (arith, h))
high_at (suc n) [] j e h = absurd (omega (arith, e))
high_at (suc n) (p ∷ ps) zero e h = refl
high_at (suc n) (p ∷ ps) (suc j) e h = high_at n ps j (omega (arith, e)) (omega (arith, h))
