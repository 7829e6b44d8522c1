-- The polynomials of the mask, as they are read and unpacked.
use Rattle.std.proofs.Common.{zero, suc, [], ◌∷◌, ◌≡◌, ◌<◌, ◌*◌, ℕ, List, ℤ, pos, get_or, length, take, drop, map, ap, sym, ◌∙◌, arith, ◌+◌, ◌≤◌, ◌≤ℤ◌, ◌++◌, ◌-◌, ◌-ℤ◌, ◌⊎◌, inl, inr, nat_abs, refl, set, length-set, to_z, of_z, Some}
use Rattle.std.specs.List.{range_with_len}
use Rattle.std.proofs.lemmas.List.{take_all, take_at, drop_at, take-take, drop-take}
use Rattle.std.proofs.lemmas.List.Elements.{All-map}
use Rattle.std.proofs.lemmas.List.FromFn.{fill_by_all, length-map-range_with_len}
use Rattle.std.proofs.lemmas.Option.{same_Some}
use Rattle.std.proofs.Math.Seq.{take-add}
use Rattle.std.proofs.lemmas.Nat.{mul-le}
use Rattle.fips204_base.proofs.Bits.{length-digits}
use Rattle.fips204_base.proofs.Vectors.{length-polynomial_of, polynomial_of-at, polynomial_of-same, row_written}
use Rattle.fips204_base.specs.Packing.{integer_to_bits, bits, bits_to_integer, width, bit_length, unpacked}
use Rattle.fips204_base.specs.Bounds.{PolynomialInRange}
use Rattle.fips204_base.specs.Vectors.{polynomial_of, IsVector}
use Rattle.fips204_base.specs.Sampling.{mask}
use Rattle.fips204_base.proofs.Packing.{field_at, field_small, bits_below}
use Rattle.std.specs.Int.{w16, w32, to_le_bytes}
use Rattle.std.proofs.lemmas.Int.{ints}
use Rattle.fips204_base.specs.SamplerSteps.{mask_polynomial, mask_width}
use Rattle.fips204_base.specs.EncodingSteps.{coefficient}
use Rattle.std.proofs.lemmas.Grind.{common_steps}
use Rattle.fips204_base.specs.declared.types.R.{R}

-- What is unpacked are the first 32 c bytes, with c bits a coefficient.

bits_take : (k : ℕ) (xs : List ℕ) → bits 8 (take k xs) ≡ take (8 * k) (bits 8 xs)
unfolding bits
bits_take zero xs = refl
bits_take (suc k) [] = sym (take_all (8 * suc k) [] (omega arith))
bits_take (suc k) (x ∷ xs) =
    let more : 8 * suc k ≡ 8 + 8 * k = omega arith in
    ap (λ l. integer_to_bits 8 x ++ l) (bits_take k xs) ∙ sym (take-append-add 8 (8 * k) (integer_to_bits 8 x) (bits 8 xs) (length-digits 8 x))
    ∙ ap (λ m. take m (integer_to_bits 8 x ++ bits 8 xs)) (sym more)
  where
    take-append-add : (n m : ℕ) (ys zs : List ℕ) → length ys ≡ n → take (n + m) (ys ++ zs) ≡ ys ++ take m zs
    take-append-add n m ys zs e = take-add n m (ys ++ zs) ∙ rw (take_at ys zs n e, drop_at ys zs n e) refl

field_at-take : (c n : ℕ) (xs : List ℕ) → n < 256 → field_at c (bits 8 (take (32 * c) xs)) n ≡ field_at c (bits 8 xs) n
field_at-take c n xs h =
    let room = mul-le c (n + 1) c 256 (omega arith) (omega (arith, h)) in
    let rest = 8 * (32 * c) - c * n in
    let split : 8 * (32 * c) ≡ c * n + rest = omega (arith, room) in
    let enough : c ≤ rest = omega (arith, room) in
    ap (λ l. bits_to_integer (take c (drop (c * n) l))) (bits_take (32 * c) xs ∙ ap (λ k. take k (bits 8 xs)) split)
    ∙ ap (λ l. bits_to_integer (take c l)) (drop-take (c * n) rest (bits 8 xs)) ∙ ap bits_to_integer (take-take c rest (drop (c * n) (bits 8 xs)) enough)

unpacked-is : (a b : ℕ) (bytes : List ℕ) → unpacked a b bytes ≡ polynomial_of (λ n. coefficient (pos a) (pos b) (field_at (width (pos a) (pos b)) (bits 8 bytes) n))
unfolding unpacked polynomial_of coefficient
unpacked-is a b bytes = refl

pub unpacked-take : (a b : ℕ) (bytes : List ℕ) → unpacked a b (take (32 * width (pos a) (pos b)) bytes) ≡ unpacked a b bytes
unfolding unpacked polynomial_of coefficient
unpacked-take a b bytes =
    let c = width (pos a) (pos b) in
    let f = λ (n : ℕ). coefficient (pos a) (pos b) (field_at c (bits 8 (take (32 * c) bytes)) n) in
    let g = λ (n : ℕ). coefficient (pos a) (pos b) (field_at c (bits 8 bytes) n) in
    polynomial_of-same g (polynomial_of f) (length-polynomial_of f) (λ n h. polynomial_of-at f n h ∙ ap (coefficient (pos a) (pos b)) (field_at-take c n bytes h))

-- The polynomials of the mask, as they are read and unpacked.

pub map_same : {X Y : Type 0} (f g : X → Y) (xs : List X) → ((x : X) → f x ≡ g x) → map f xs ≡ map g xs
map_same f g [] same = refl
map_same f g (x ∷ xs) same = rw (same x, map_same f g xs same) refl

pub mask-is : (gamma1 : ℕ) (H : List ℕ → List ℕ) (rho : List ℕ) (l kappa : ℕ)
    → mask gamma1 H rho l kappa ≡ map (λ r. mask_polynomial gamma1 (H (rho ++ to_le_bytes w16 (kappa + r)))) (range_with_len 0 l)
unfolding mask
mask-is gamma1 H rho l kappa = grind (arith, ints, common_steps, map_same, to_le_bytes, unpacked-take)

-- the polynomials of the mask, each in its place
pub mask-each : (gamma1 : ℕ) (H : List ℕ → List ℕ) (rho : List ℕ) (l kappa : ℕ) (v : List R) → length v ≡ l
    → ((k : ℕ) (d : R) → k < l → Some (mask_polynomial gamma1 (H (rho ++ to_le_bytes w16 (kappa + k)))) ≡ Some (get_or v k d)) → v ≡ mask gamma1 H rho l kappa
mask-each gamma1 H rho l kappa v size each =
    let polynomial = λ (k : ℕ). mask_polynomial gamma1 (H (rho ++ to_le_bytes w16 (kappa + k))) in
    let none : R = record { 0 = [] } in
    fill_by_all polynomial v l none size (λ k h. sym (same_Some _ _ (each k none h))) ∙ sym (mask-is gamma1 H rho l kappa)

-- the two ranges of the mask

pub less_read : (gamma1 : ℤ) → (gamma1 ≡ pos 131072) ⊎ (gamma1 ≡ pos 524288) → to_z w32 (of_z w32 (gamma1 -ℤ pos 1)) ≡ gamma1 -ℤ pos 1
less_read gamma1 (inl e) = rw e refl
less_read gamma1 (inr e) = rw e refl

pub mask_width-is : (gamma1 : ℤ) → (gamma1 ≡ pos 131072) ⊎ (gamma1 ≡ pos 524288) → width (gamma1 -ℤ pos 1) gamma1 ≡ mask_width (nat_abs gamma1)
mask_width-is gamma1 (inl e) = rw e refl
mask_width-is gamma1 (inr e) = rw e refl

-- 640 bytes are enough
pub mask_size-within : (gamma1 : ℤ) → (gamma1 ≡ pos 131072) ⊎ (gamma1 ≡ pos 524288) → 32 * mask_width (nat_abs gamma1) ≤ 640
unfolding bit_length
mask_size-within gamma1 (inl e) = rw e (omega arith)
mask_size-within gamma1 (inr e) = rw e (omega arith)

-- three rows more
pub three_rows : {A : Type 0} (Q : ℕ → A → Type 0) (out : List A) (r l : ℕ) (w x y : A) → length out ≡ l → r + 3 ≤ l
    → ((k : ℕ) (d : A) → k < r → Q k (get_or out k d)) → Q r w → Q (r + 1) x → Q (r + 2) y
    → (length (set (set (set out r w) (r + 1) x) (r + 2) y) ≡ l) × ((k : ℕ) (d : A) → k < r + 3 → Q k (get_or (set (set (set out r w) (r + 1) x) (r + 2) y) k d))
three_rows Q out r l w x y size place before qw qx qy =
    let one = set out r w in
    let two = set one (r + 1) x in
    let size_1 = length-set out r w ∙ size in
    let size_2 = length-set one (r + 1) x ∙ size_1 in (
      length-set two (r + 2) y ∙ size_2,
      λ k d h.
          let after_1 = row_written Q out r w d (omega (arith, size, place)) (λ n m. before n d m) qw in
          let after_2 = row_written Q one (r + 1) x d (omega (arith, size_1, place)) after_1 qx in
          row_written Q two (r + 2) y d (omega (arith, size_2, place)) (λ n m. after_2 n (omega (arith, m))) qy k (omega (arith, h)),
    )

-- and four
pub four_rows : {A : Type 0} (Q : ℕ → A → Type 0) (out : List A) (r l : ℕ) (w x y z : A) → length out ≡ l → r + 4 ≤ l
    → ((k : ℕ) (d : A) → k < r → Q k (get_or out k d)) → Q r w → Q (r + 1) x → Q (r + 2) y → Q (r + 3) z
    → (length (set (set (set (set out r w) (r + 1) x) (r + 2) y) (r + 3) z) ≡ l)
    × ((k : ℕ) (d : A) → k < r + 4 → Q k (get_or (set (set (set (set out r w) (r + 1) x) (r + 2) y) (r + 3) z) k d))
four_rows Q out r l w x y z size place before qw qx qy qz =
    let three = set (set (set out r w) (r + 1) x) (r + 2) y in
    let written = three_rows Q out r l w x y size (omega (arith, place)) before qw qx qy in (
      length-set three (r + 3) z ∙ written.0,
      λ k d h. row_written Q three (r + 3) z d (omega (arith, written.0, place)) (λ n m. written.1 n d m) qz k (omega (arith, h)),
    )

-- the range of the mask

coefficient-low : (f : ℕ) → f < 262144 → ((pos 0 -ℤ pos 131071) ≤ℤ coefficient (pos 131071) (pos 131072) f) × (coefficient (pos 131071) (pos 131072) f ≤ℤ pos 131072)
unfolding coefficient
coefficient-low f l = (omega (arith, ints, l), omega (arith, ints))

coefficient-high : (f : ℕ) → f < 1048576 → ((pos 0 -ℤ pos 524287) ≤ℤ coefficient (pos 524287) (pos 524288) f) × (coefficient (pos 524287) (pos 524288) f ≤ℤ pos 524288)
unfolding coefficient
coefficient-high f l = (omega (arith, ints, l), omega (arith, ints))

all_of : (f : ℕ → ℤ) (a b : ℤ) → ((n : ℕ) → (a ≤ℤ f n) × (f n ≤ℤ b)) → (length (polynomial_of f).0 ≡ 256) × PolynomialInRange a b (polynomial_of f).0
unfolding polynomial_of
all_of f a b each = (length-map-range_with_len f 0 256, All-map (λ x. (a ≤ℤ x) × (x ≤ℤ b)) f (range_with_len 0 256) (λ k d l. each (get_or (range_with_len 0 256) k d)))

pub mask_polynomial-range : (gamma1 : ℕ) (front : List ℕ) → (gamma1 ≡ 131072) ⊎ (gamma1 ≡ 524288)
    → (length (mask_polynomial gamma1 front).0 ≡ 256) × PolynomialInRange (pos 0 -ℤ pos (gamma1 - 1)) (pos gamma1) (mask_polynomial gamma1 front).0
unfolding bit_length
mask_polynomial-range gamma1 front (inl e) = rw (e, unpacked-is 131071 131072 (take 576 front)) (all_of (λ n. coefficient (pos 131071) (pos 131072) (field_at 18 (bits 8 (take 576 front)) n)) (pos 0 -ℤ pos 131071) (pos 131072) (λ n. coefficient-low (field_at 18 (bits 8 (take 576 front)) n) (field_small 18 (bits 8 (take 576 front)) n (bits_below 8 (take 576 front)))))
mask_polynomial-range gamma1 front (inr e) = rw (e, unpacked-is 524287 524288 (take 640 front)) (all_of (λ n. coefficient (pos 524287) (pos 524288) (field_at 20 (bits 8 (take 640 front)) n)) (pos 0 -ℤ pos 524287) (pos 524288) (λ n. coefficient-high (field_at 20 (bits 8 (take 640 front)) n) (field_small 20 (bits 8 (take 640 front)) n (bits_below 8 (take 640 front)))))

pub mask-range : (gamma1 : ℕ) (H : List ℕ → List ℕ) (rho : List ℕ) (l kappa : ℕ) → (gamma1 ≡ 131072) ⊎ (gamma1 ≡ 524288) → IsVector l (gamma1 - 1) gamma1 (mask gamma1 H rho l kappa)
mask-range gamma1 H rho l kappa set =
    let polynomial = λ (r : ℕ). mask_polynomial gamma1 (H (rho ++ to_le_bytes w16 (kappa + r))) in
    rw mask-is record {
      rows = length-map-range_with_len polynomial 0 l;
      places = All-map (λ w. length w.0 ≡ 256) polynomial (range_with_len 0 l) (λ k d h. (mask_polynomial-range gamma1 _ set).0);
      range = All-map (λ w. PolynomialInRange (pos 0 -ℤ pos (gamma1 - 1)) (pos gamma1) w.0) polynomial (range_with_len 0 l) (λ k d h. (mask_polynomial-range gamma1 _ set).1);
    }
