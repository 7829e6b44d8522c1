-- Bytes determine the fields that they pack, and fields the bytes; so it is with the bytes of a polynomial.
use Rattle.std.proofs.Common.{◌≡◌, ℕ, zero, suc, ◌+◌, ◌*◌, ◌%◌, ◌/◌, ◌^◌, ◌<◌, ◌≤◌, List, [], ◌∷◌, ◌++◌, length, take, drop, map, get_or, refl, ap, sym, ◌∙◌, arith, length-append, length-take, length-drop, ℤ, pos, nat_abs, ◌-ℤ◌, ◌≤ℤ◌, subst, ◌-◌, ◌⊎◌, inl, inr, append_assoc}
use Rattle.std.specs.List.{All, range_with_len}
use Rattle.std.proofs.lemmas.Int.{ints}
use Rattle.std.proofs.lemmas.List.{take_at, drop_at, drop-drop, drop_more, take_all, length-map, ext_get_or, get_or-map}
use Rattle.std.proofs.lemmas.List.Elements.{All-head, All-tail, All-nil, All-cons, All-append, All-map, All-take, All-drop, All-weaker, All-get_or}
use Rattle.std.proofs.lemmas.List.Concat.{flat_map-append}
use Rattle.std.proofs.lemmas.List.FromFn.{fill_by_all, length-map-range_with_len, get_or-map-range_with_len}
use Rattle.std.proofs.lemmas.Nat.{pow_pos, mod_below}
use Rattle.std.proofs.Math.Seq.{take-add, drop-append-add}
use Rattle.std.proofs.Math.Nat.{pow-succ'}
use Rattle.fips204_base.specs.Packing.{bits, bits_to_bytes, bits_to_integer, integer_to_bits, polynomial_bytes, unpacked, width}
use Rattle.fips204_base.specs.Bounds.{Bounds, PolynomialInRange}
use Rattle.fips204_base.specs.declared.types.R.{R}
use Rattle.fips204_base.specs.EncodingSteps.{Packs, coefficient, field, three_bytes, wide_field}
use Rattle.fips204_base.proofs.Bits.{digits-zero, digits-suc, digits_join, digits_split, length-digits, same_numbers}
use Rattle.fips204_base.proofs.Fields.{coefficient-field, field-coefficient, fields_fit}
use Rattle.std.proofs.lemmas.Grind.{common_steps}

-- Bytes determine the fields that they pack, and fields the bytes.

integer-nil : bits_to_integer [] ≡ 0
unfolding bits_to_integer
integer-nil = refl

integer-cons : (bit : ℕ) (higher : List ℕ) → bits_to_integer (bit ∷ higher) ≡ bit + 2 * bits_to_integer higher
unfolding bits_to_integer
integer-cons bit higher = refl

-- the number of its digits
pub integer_of_digits : (w x : ℕ) → x < 2 ^ w → bits_to_integer (integer_to_bits w x) ≡ x
integer_of_digits zero x h = ap bits_to_integer (digits-zero x) ∙ integer-nil ∙ omega arith
integer_of_digits (suc w) x h =
    let p : 2 ^ suc w ≡ 2 * 2 ^ w = pow-succ' 2 w in
    let rest = integer_of_digits w (x / 2) (omega (arith, p)) in
    ap bits_to_integer (digits-suc w x) ∙ integer-cons (x % 2) (integer_to_bits w (x / 2)) ∙ omega (arith, rest)

-- the digits of a number that is made of digits
pub digits_of_integer : (w : ℕ) (digits : List ℕ) → length digits ≡ w → All (λ digit. digit < 2) digits → integer_to_bits w (bits_to_integer digits) ≡ digits
digits_of_integer w [] e h = ap (λ n. integer_to_bits n (bits_to_integer [])) (sym e) ∙ digits-zero (bits_to_integer [])
digits_of_integer zero (digit ∷ higher) e h = absurd (omega (arith, e))
digits_of_integer (suc w) (digit ∷ higher) e h =
    let rest = digits_of_integer w higher (omega (arith, e)) (All-tail (λ (d : ℕ). d < 2) digit higher h) in
    grind (arith, ints, common_steps, rest, All-head, integer-cons, digits-suc)

pub length-bits : (w : ℕ) (xs : List ℕ) → length (bits w xs) ≡ w * length xs
unfolding bits
length-bits w [] = omega arith
length-bits w (x ∷ xs) = length-append (integer_to_bits w x) (bits w xs) ∙ rw (length-digits w x, length-bits w xs) (omega arith)

drop_front : (n m : ℕ) (xs ys : List ℕ) → length xs ≡ n → drop (n + m) (xs ++ ys) ≡ drop m ys
drop_front n m xs ys e = ap (λ k. drop (k + m) (xs ++ ys)) (sym e) ∙ drop-append-add xs ys m

-- the digits of one of the numbers
pub digits_at : (w k : ℕ) (xs : List ℕ) → k < length xs → take w (drop (w * k) (bits w xs)) ≡ integer_to_bits w (get_or xs k 0)
unfolding bits
digits_at w k [] h = absurd (omega arith)
digits_at w zero (x ∷ xs) h = grind (arith, ints, common_steps, take_at, length-digits)
digits_at w (suc k) (x ∷ xs) h =
    let more : w * suc k ≡ w + w * k = omega arith in
    rw (more, drop_front w (w * k) (integer_to_bits w x) (bits w xs) (length-digits w x)) (digits_at w k xs (omega (arith, h)))

digits_below : (w x : ℕ) → All (λ digit. digit < 2) (integer_to_bits w x)
digits_below zero x = rw (digits-zero x) (All-nil (λ (d : ℕ). d < 2))
digits_below (suc w) x = rw (digits-suc w x) (All-cons (λ (d : ℕ). d < 2) (x % 2) (integer_to_bits w (x / 2)) (omega arith) (digits_below w (x / 2)))

pub bits_below : (w : ℕ) (xs : List ℕ) → All (λ digit. digit < 2) (bits w xs)
unfolding bits
bits_below w [] = All-nil (λ (d : ℕ). d < 2)
bits_below w (x ∷ xs) = All-append (λ (d : ℕ). d < 2) (integer_to_bits w x) (bits w xs) (digits_below w x) (bits_below w xs)

-- the bytes of whole bytes' bits
bytes_of_bits : (bytes : List ℕ) → All (λ byte. byte < 256) bytes → bits_to_bytes (bits 8 bytes) ≡ bytes
unfolding bits_to_bytes
bytes_of_bits bytes h =
    let n : length (bits 8 bytes) / 8 ≡ length bytes = omega (arith, length-bits 8 bytes) in
    rw n (sym (fill_by_all (λ i. bits_to_integer (take 8 (drop (8 * i) (bits 8 bytes)))) bytes (length bytes) 0 refl
    (λ k l. sym (ap bits_to_integer (digits_at 8 k bytes l) ∙ integer_of_digits 8 (get_or bytes k 0) (h k 0 l)))))

-- field n of bits that are those of fields of c bits each
abbrev pub field_at : ℕ → List ℕ → ℕ → ℕ
field_at c all n = bits_to_integer (take c (drop (c * n) all))

-- what digits hold from digit s on
cut_digits : (s c m word : ℕ) (rest : List ℕ) → s + c ≤ m → bits_to_integer (take c (drop s (integer_to_bits m word ++ rest))) ≡ word / 2 ^ s % 2 ^ c
cut_digits s c m word rest h =
    let below = integer_to_bits s (word % 2 ^ s) in
    let here = integer_to_bits c (word / 2 ^ s % 2 ^ c) in
    let above = integer_to_bits (m - s - c) (word / 2 ^ s / 2 ^ c) in
    let parts : integer_to_bits m word ≡ below ++ (here ++ above) =
    sym (digits_split s m word (omega (arith, h))) ∙ ap (λ l. below ++ l) (sym (digits_split c (m - s) (word / 2 ^ s) (omega (arith, h)))) in
    rw (parts, append_assoc below (here ++ above) rest, drop_at below ((here ++ above) ++ rest) s (length-digits s _), append_assoc here above rest, take_at here (above ++ rest) c (length-digits c _))
    (integer_of_digits c (word / 2 ^ s % 2 ^ c) (mod_below (word / 2 ^ s) (2 ^ c) (pow_pos c)))

drop_bits : (w k : ℕ) (xs : List ℕ) → k ≤ length xs → drop (w * k) (bits w xs) ≡ bits w (drop k xs)
unfolding bits
drop_bits w zero xs h = let none : w * 0 ≡ 0 = omega arith in rw none refl
drop_bits w (suc k) [] h = absurd (omega (arith, h))
drop_bits w (suc k) (x ∷ xs) h =
    let more : w * suc k ≡ w + w * k = omega arith in
    rw (more, drop_front w (w * k) (integer_to_bits w x) (bits w xs) (length-digits w x)) (drop_bits w k xs (omega (arith, h)))

-- three bytes as digits
three_digits : (x y z : ℕ) (rest : List ℕ) → x < 256 → y < 256 → bits 8 (x ∷ y ∷ z ∷ rest) ≡ integer_to_bits 24 (x + 256 * y + 65536 * z) ++ bits 8 rest
unfolding bits
three_digits x y z rest p q =
    let all : x + 256 * y + 65536 * z ≡ (x + y * 2 ^ 8) + z * 2 ^ 16 = omega arith in
    let split : integer_to_bits 24 (x + 256 * y + 65536 * z) ≡ (integer_to_bits 8 x ++ integer_to_bits 8 y) ++ integer_to_bits 8 z =
    ap (integer_to_bits 24) all ∙ digits_join 16 8 24 (x + y * 2 ^ 8) z refl (omega (arith, p, q)) ∙ ap (λ l. l ++ integer_to_bits 8 z) (digits_join 8 8 16 x y refl (omega (arith, p))) in
    rw (split, append_assoc (integer_to_bits 8 x ++ integer_to_bits 8 y) (integer_to_bits 8 z) (bits 8 rest), append_assoc (integer_to_bits 8 x) (integer_to_bits 8 y) (integer_to_bits 8 z ++ bits 8 rest)) refl

wide-cut : (c : ℕ) (bytes : List ℕ) (n : ℕ) → All (λ byte. byte < 256) bytes → c * n % 8 + c ≤ 24 → c * n / 8 + 3 ≤ length bytes → wide_field c bytes n ≡ field_at c (bits 8 bytes) n
wide-cut c bytes n small few inside =
    let o = c * n / 8 in
    let s = c * n % 8 in
    let place : c * n ≡ 8 * o + s = omega arith in
    let second : o + 1 + 1 ≡ o + 2 = omega arith in
    let third : o + 2 + 1 ≡ o + 3 = omega arith in
    let read : drop o bytes ≡ get_or bytes o 0 ∷ get_or bytes (o + 1) 0 ∷ get_or bytes (o + 2) 0 ∷ drop (o + 3) bytes =
    drop_more bytes o 0 (omega (arith, inside)) ∙ ap (λ l. get_or bytes o 0 ∷ l) (drop_more bytes (o + 1) 0 (omega (arith, inside))
    ∙ ap (λ k. get_or bytes (o + 1) 0 ∷ drop k bytes) second
    ∙ ap (λ l. get_or bytes (o + 1) 0 ∷ l) (drop_more bytes (o + 2) 0 (omega (arith, inside)) ∙ ap (λ k. get_or bytes (o + 2) 0 ∷ drop k bytes) third)) in
    let digits = three_digits (get_or bytes o 0) (get_or bytes (o + 1) 0) (get_or bytes (o + 2) 0) (drop (o + 3) bytes) (small o 0 (omega (arith, inside))) (small (o + 1) 0 (omega (arith, inside))) in
    let from : drop (c * n) (bits 8 bytes) ≡ drop s (integer_to_bits 24 (three_bytes bytes o) ++ bits 8 (drop (o + 3) bytes)) =
    ap (λ k. drop k (bits 8 bytes)) place ∙ sym (drop-drop s (8 * o) (bits 8 bytes)) ∙ ap (drop s) (drop_bits 8 o bytes (omega (arith, inside)) ∙ ap (bits 8) read ∙ digits) in
    sym (ap (λ l. bits_to_integer (take c l)) from ∙ cut_digits s c 24 (three_bytes bytes o) (bits 8 (drop (o + 3) bytes)) few)

-- a field of 18 or 20 bits among eight
pub wide-at : (c : ℕ) (bytes : List ℕ) (n : ℕ) → (c ≡ 18) ⊎ (c ≡ 20) → length bytes ≡ c → All (λ byte. byte < 256) bytes → n < 8 → wide_field c bytes n ≡ field_at c (bits 8 bytes) n
wide-at c bytes n wide long small h = elim wide [
  | inl e ↦ wide-cut c bytes n small (rw e (omega arith)) (rw (long, e) (omega (arith, h)))
  | inr e ↦ wide-cut c bytes n small (rw e (omega arith)) (rw (long, e) (omega (arith, h)))
]

-- the same field in a piece of the bytes
pub wide-piece : (c k from n m : ℕ) (piece bytes : List ℕ) → ((i : ℕ) → i < k → get_or piece i 0 ≡ get_or bytes (from + i) 0)
    → c * n / 8 + 3 ≤ k → c * m / 8 ≡ from + c * n / 8 → c * m % 8 ≡ c * n % 8 → wide_field c piece n ≡ wide_field c bytes m
wide-piece c k from n m piece bytes same inside place shift =
    let o = c * n / 8 in
    let p = c * m / 8 in
    let at = λ (i j : ℕ) (h : i < k) (e : from + i ≡ j). same i h ∙ ap (λ l. get_or bytes l 0) e in
    let x : get_or piece o 0 ≡ get_or bytes p 0 = at o p (omega (arith, inside)) (omega (arith, place)) in
    let y : get_or piece (o + 1) 0 ≡ get_or bytes (p + 1) 0 = at (o + 1) (p + 1) (omega (arith, inside)) (omega (arith, place)) in
    let z : get_or piece (o + 2) 0 ≡ get_or bytes (p + 2) 0 = at (o + 2) (p + 2) (omega (arith, inside)) (omega (arith, place)) in
    let all : three_bytes piece o ≡ three_bytes bytes p = cc in
    ap (λ b. b / 2 ^ (c * n % 8) % 2 ^ c) all ∙ ap (λ s. three_bytes bytes p / 2 ^ s % 2 ^ c) (sym shift)

-- the bits of fields that were cut from bits
bits_of_fields : (c : ℕ) (all : List ℕ) (s n : ℕ) → c * (s + n) ≤ length all → All (λ digit. digit < 2) all → bits c (map (field_at c all) (range_with_len s n)) ≡ take (c * n) (drop (c * s) all)
unfolding bits
bits_of_fields c all s zero h d = let none : c * 0 ≡ 0 = omega arith in rw none refl
bits_of_fields c all s (suc n) h d =
    let rest = bits_of_fields c all (s + 1) n (omega (arith, h)) d in
    grind (arith, ints, common_steps, rest, digits_of_integer, length-take, length-drop, All-take, All-drop, take-add, drop-drop)

pub is_packed : (c : ℕ) (bytes fields : List ℕ) → Packs c bytes fields → bytes ≡ bits_to_bytes (bits c fields)
is_packed c bytes fields p = sym (bytes_of_bits bytes p.small_bytes) ∙ ap bits_to_bytes p.same_bits

byte_count : (all : List ℕ) → length (bits_to_bytes all) ≡ length all / 8
unfolding bits_to_bytes
byte_count all = length-map-range_with_len (λ i. bits_to_integer (take 8 (drop (8 * i) all))) 0 (length all / 8)

pub integer_small : (w : ℕ) (digits : List ℕ) → length digits ≤ w → All (λ digit. digit < 2) digits → bits_to_integer digits < 2 ^ w
integer_small w [] h d = rw integer-nil (pow_pos w)
integer_small zero (x ∷ xs) h d = absurd (omega (arith, h))
integer_small (suc w) (x ∷ xs) h d =
    let rest = integer_small w xs (omega (arith, h)) (All-tail (λ (y : ℕ). y < 2) x xs d) in
    grind (arith, ints, common_steps, rest, All-head, integer-cons, pow-succ')

pub field_small : (c : ℕ) (all : List ℕ) (i : ℕ) → All (λ digit. digit < 2) all → field_at c all i < 2 ^ c
field_small c all i d = grind (arith, ints, common_steps, length-take, integer_small, All-take, All-drop)

pub length-packed : (c n : ℕ) (fields : List ℕ) → c * length fields ≡ 8 * n → length (bits_to_bytes (bits c fields)) ≡ n
length-packed c n fields e =
    let eighths : length (bits c fields) / 8 ≡ n = omega (arith, length-bits c fields, e) in
    byte_count (bits c fields) ∙ eighths

pub packs_packed : (c n : ℕ) (fields : List ℕ) → c * length fields ≡ 8 * n → All (λ field. field < 2 ^ c) fields → Packs c (bits_to_bytes (bits c fields)) fields
unfolding bits_to_bytes
packs_packed c n fields e h =
    let long : length (bits c fields) ≡ 8 * n = length-bits c fields ∙ e in
    let eighths : length (bits c fields) / 8 ≡ n = omega (arith, long) in
    let all = bits_of_fields 8 (bits c fields) 0 n (omega (arith, long)) (bits_below c fields) in
    record {
      same_bits = rw eighths (all ∙ take_all (8 * n) (bits c fields) (omega (arith, long)));
      small_bytes = All-map (λ (b : ℕ). b < 256) (field_at 8 (bits c fields)) (range_with_len 0 (length (bits c fields) / 8)) (λ k d l. field_small 8 (bits c fields) _ (bits_below c fields));
      small_fields = h;
    }

-- nothing packs to nothing, and what follows packs to what follows

pub packs_none : (c : ℕ) → Packs c [] []
unfolding bits
packs_none c = record { same_bits = refl; small_bytes = All-nil (λ (byte : ℕ). byte < 256); small_fields = All-nil (λ (f : ℕ). f < 2 ^ c) }

pub packs_joined : (c : ℕ) (bytes more fields others : List ℕ) → Packs c bytes fields → Packs c more others → Packs c (bytes ++ more) (fields ++ others)
unfolding bits
packs_joined c bytes more fields others p q = grind (arith, ints, common_steps, flat_map-append, All-append)

pub same_fields : (c : ℕ) (bytes fields others : List ℕ) → length fields ≡ length others → Packs c bytes fields → Packs c bytes others → fields ≡ others
same_fields c bytes fields others n p q = same_numbers c fields others n p.small_fields q.small_fields (sym p.same_bits ∙ q.same_bits)

pub same_bytes : (c : ℕ) (bytes others fields : List ℕ) → Packs c bytes fields → Packs c others fields → bytes ≡ others
same_bytes c bytes others fields p q = is_packed c bytes fields p ∙ sym (is_packed c others fields q)

-- The bytes of a polynomial determine it, and it determines them.

-- the bytes pack the fields of 256 coefficients, each the one that its field has
pub record Unpacks (a b : ℤ) (bytes : List ℕ) (w : List ℤ) : Type 0 where
  pub same_fields : Packs (width a b) bytes (map (field a b) w)
  pub count : length w ≡ 256
  pub coefficients : All (λ x. coefficient a b (field a b x) ≡ x) w

eighths : (c : ℕ) → c * 256 ≡ 8 * (32 * c)
eighths c = omega arith

coefficients_again : (a b : ℤ) (w : List ℤ) → All (λ x. coefficient a b (field a b x) ≡ x) w → map (coefficient a b) (map (field a b) w) ≡ w
coefficients_again a b [] h = refl
coefficients_again a b (x ∷ w) h =
    let tail = coefficients_again a b w (All-tail (λ (y : ℤ). coefficient a b (field a b y) ≡ y) x w h) in
    grind (arith, ints, common_steps, tail, All-head)

in_range_again : (a b : ℤ) (w : List ℤ) → Bounds a b → PolynomialInRange (pos 0 -ℤ a) b w → All (λ x. coefficient a b (field a b x) ≡ x) w
in_range_again a b w bounds range =
    All-weaker (λ (x : ℤ). ((pos 0 -ℤ a) ≤ℤ x) × (x ≤ℤ b)) (λ (x : ℤ). coefficient a b (field a b x) ≡ x) (λ x r. coefficient-field a b x bounds r.0 r.1) w range

pub polynomial_bytes-is : (a b : ℤ) (w : List ℤ) → polynomial_bytes a b w ≡ bits_to_bytes (bits (width a b) (map (field a b) w))
unfolding polynomial_bytes field
polynomial_bytes-is a b w = refl

pub length-polynomial_bytes : (a b : ℤ) (w : List ℤ) → length w ≡ 256 → length (polynomial_bytes a b w) ≡ 32 * width a b
length-polynomial_bytes a b w n =
    let all : length (map (field a b) w) ≡ 256 = length-map w (field a b) ∙ n in
    ap length (polynomial_bytes-is a b w) ∙ length-packed (width a b) (32 * width a b) (map (field a b) w) (rw all (eighths (width a b)))

-- bytes unpack to a polynomial in range exactly if they are its bytes
pub unpacks_bytes : (a b : ℤ) (bytes : List ℕ) (w : List ℤ) → Unpacks a b bytes w → bytes ≡ polynomial_bytes a b w
unpacks_bytes a b bytes w u = is_packed (width a b) bytes (map (field a b) w) u.same_fields ∙ sym (polynomial_bytes-is a b w)

pub bytes_unpack : (a b : ℤ) (w : List ℤ) → Bounds a b → PolynomialInRange (pos 0 -ℤ a) b w → length w ≡ 256 → Unpacks a b (polynomial_bytes a b w) w
bytes_unpack a b w bounds range n =
    let all : length (map (field a b) w) ≡ 256 = length-map w (field a b) ∙ n in
    record {
      same_fields = rw (polynomial_bytes-is a b w) (packs_packed (width a b) (32 * width a b) (map (field a b) w) (rw all (eighths (width a b))) (fields_fit a b w bounds range));
      count = n;
      coefficients = in_range_again a b w bounds range;
    }

pub unpacks_once : (a b : ℤ) (bytes : List ℕ) (v w : List ℤ) → Unpacks a b bytes v → Unpacks a b bytes w → v ≡ w
unpacks_once a b bytes v w p q =
    let counts : length (map (field a b) v) ≡ length (map (field a b) w) = length-map v (field a b) ∙ p.count ∙ sym q.count ∙ sym (length-map w (field a b)) in
    let fields = same_fields (width a b) bytes (map (field a b) v) (map (field a b) w) counts p.same_fields q.same_fields in
    sym (coefficients_again a b v p.coefficients) ∙ ap (map (coefficient a b)) fields ∙ coefficients_again a b w q.coefficients

pub same_polynomial : (a b : ℤ) (v w : List ℤ) → Bounds a b → PolynomialInRange (pos 0 -ℤ a) b v → PolynomialInRange (pos 0 -ℤ a) b w → length v ≡ 256 → length w ≡ 256
    → polynomial_bytes a b v ≡ polynomial_bytes a b w → v ≡ w
same_polynomial a b v w bounds p q n m e =
    unpacks_once a b (polynomial_bytes a b w) v w (rw e at (bytes_unpack a b v bounds p n)) (bytes_unpack a b w bounds q m)

-- The polynomial that bytes hold is the one that they unpack to.

field_at-packs : (c : ℕ) (bytes fields : List ℕ) (n : ℕ) → Packs c bytes fields → n < length fields → field_at c (bits 8 bytes) n ≡ get_or fields n 0
field_at-packs c bytes fields n p h = grind (arith, ints, common_steps, digits_at, integer_of_digits, All-get_or)

unpacked-unpacks : (a b : ℕ) (bytes : List ℕ) (w : R) → Unpacks (pos a) (pos b) bytes w.0 → unpacked a b bytes ≡ w
unfolding unpacked coefficient
unpacked-unpacks a b bytes w u =
    let c = width (pos a) (pos b) in
    let value = λ (n : ℕ). coefficient (pos a) (pos b) (field_at c (bits 8 bytes) n) in
    let fields = map (field (pos a) (pos b)) w.0 in
    let long : length fields ≡ 256 = length-map w.0 (field (pos a) (pos b)) ∙ u.count in
    let same : map value (range_with_len 0 256) ≡ w.0 =
    ext_get_or (pos 0) (map value (range_with_len 0 256)) w.0 (length-map-range_with_len value 0 256 ∙ sym u.count) (λ n l.
    let inside : n < 256 = omega (arith, l, length-map-range_with_len value 0 256) in
    let inside' : n < length w.0 = omega (arith, inside, u.count) in
    get_or-map-range_with_len value 0 256 n n (pos 0) inside (omega arith)
    ∙ ap (coefficient (pos a) (pos b)) (field_at-packs c bytes fields n u.same_fields (omega (arith, inside, long)) ∙ get_or-map (field (pos a) (pos b)) w.0 n (pos 0) 0 inside')
    ∙ All-get_or (λ x. coefficient (pos a) (pos b) (field (pos a) (pos b) x) ≡ x) w.0 n (pos 0) inside' u.coefficients) in
    ap (λ (l : List ℤ). let w : R = record { 0 = l } in w) same

-- bytes pack the fields that are cut from them
pub packs_cut : (c n : ℕ) (bytes : List ℕ) → c * n ≡ 8 * length bytes → All (λ byte. byte < 256) bytes → Packs c bytes (map (field_at c (bits 8 bytes)) (range_with_len 0 n))
packs_cut c n bytes room small =
    let long : length (bits 8 bytes) ≡ c * n = length-bits 8 bytes ∙ omega (arith, room) in
    let start : c * 0 ≡ 0 = omega arith in
    record {
      same_bits = sym (bits_of_fields c (bits 8 bytes) 0 n (omega (arith, long)) (bits_below 8 bytes) ∙ ap (λ k. take (c * n) (drop k (bits 8 bytes))) start ∙ take_all (c * n) (bits 8 bytes) (omega (arith, long)));
      small_bytes = small;
      small_fields = All-map (λ (f : ℕ). f < 2 ^ c) (field_at c (bits 8 bytes)) (range_with_len 0 n) (λ k d l. field_small c (bits 8 bytes) _ (bits_below 8 bytes));
    }

fields_again : (a b : ℤ) (f : ℕ → ℕ) (ns : List ℕ) → map (field a b) (map (λ n. coefficient a b (f n)) ns) ≡ map f ns
fields_again a b f [] = refl
fields_again a b f (n ∷ ns) = rw (field-coefficient a b (f n), fields_again a b f ns) refl

unpacks-unpacked : (a b : ℕ) (bytes : List ℕ) → length bytes ≡ 32 * width (pos a) (pos b) → All (λ byte. byte < 256) bytes → Unpacks (pos a) (pos b) bytes (unpacked a b bytes).0
unfolding unpacked coefficient
unpacks-unpacked a b bytes room small =
    let c = width (pos a) (pos b) in
    let at = field_at c (bits 8 bytes) in
    record {
      same_fields = rw (fields_again (pos a) (pos b) at (range_with_len 0 256)) (packs_cut c 256 bytes (omega (arith, room)) small);
      count = length-map-range_with_len (λ n. coefficient (pos a) (pos b) (at n)) 0 256;
      coefficients = All-map (λ x. coefficient (pos a) (pos b) (field (pos a) (pos b) x) ≡ x) (λ n. coefficient (pos a) (pos b) (at n)) (range_with_len 0 256)
          (λ k d l. ap (coefficient (pos a) (pos b)) (field-coefficient (pos a) (pos b) (at (get_or (range_with_len 0 256) k d))));
    }

-- the same with the bounds as integers
pub is_unpacked : (a b : ℤ) (bytes : List ℕ) (w : R) → Bounds a b → Unpacks a b bytes w.0 → w ≡ unpacked (nat_abs a) (nat_abs b) bytes
is_unpacked a b bytes w bounds u = grind (arith, ints, common_steps, unpacked-unpacks)

pub unpacks : (a b : ℤ) (bytes : List ℕ) (w : R) → Bounds a b → length bytes ≡ 32 * width a b → All (λ byte. byte < 256) bytes → w ≡ unpacked (nat_abs a) (nat_abs b) bytes → Unpacks a b bytes w.0
unpacks a b bytes w bounds room small e =
    let p : pos (nat_abs a) ≡ a = omega (arith, ints, bounds) in
    let q : pos (nat_abs b) ≡ b = omega (arith, ints, bounds) in
    let size : length bytes ≡ 32 * width (pos (nat_abs a)) (pos (nat_abs b)) = room ∙ ap (λ m. 32 * width m b) (sym p) ∙ ap (λ m. 32 * width (pos (nat_abs a)) m) (sym q) in
    let w' = unpacked (nat_abs a) (nat_abs b) bytes in
    let all : Unpacks a b bytes w'.0 = subst (λ m. Unpacks a m bytes w'.0) q (subst (λ m. Unpacks m (pos (nat_abs b)) bytes w'.0) p (unpacks-unpacked (nat_abs a) (nat_abs b) bytes size small)) in
    subst (λ (v : R). Unpacks a b bytes v.0) (sym e) all
