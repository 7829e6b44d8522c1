-- Lists of binary digits, lowest first, and a running word that takes and gives them.
use Rattle.std.proofs.Common.{◌≡◌, ℕ, zero, suc, ◌+◌, ◌*◌, ◌%◌, ◌/◌, ◌-◌, ◌^◌, ◌<◌, ◌≤◌, List, [], ◌∷◌, ◌++◌, length, take, drop, refl, ap, sym, ◌∙◌, arith, append_assoc}
use Rattle.std.specs.List.{All}
use Rattle.std.proofs.lemmas.List.{flat_map_more, take_at, drop_at}
use Rattle.std.proofs.lemmas.List.Elements.{All-head, All-tail}
use Rattle.std.proofs.lemmas.Nat.{pow_pos, pow-add, shl_below, shr_below, mul-add-lt, mod_below, shr_split, mul-le}
use Rattle.std.proofs.Math.Nat.{pow-succ', pow-le-pow_right}
use Rattle.fips204_base.specs.Packing.{integer_to_bits, bits}
use Rattle.std.proofs.lemmas.Int.{ints}
use Rattle.std.proofs.lemmas.Grind.{common_steps}

pub digits-zero : (x : ℕ) → integer_to_bits zero x ≡ []
unfolding integer_to_bits
digits-zero x = refl

pub digits-suc : (w x : ℕ) → integer_to_bits (suc w) x ≡ (x % 2) ∷ integer_to_bits w (x / 2)
unfolding integer_to_bits
digits-suc w x = refl

twice : (f x : ℕ) → f * (2 * x) ≡ 2 * (f * x)
twice f x = omega arith

-- digits above digits
pub digits_join : (h c m x f : ℕ) → m ≡ h + c → x < 2 ^ h → integer_to_bits m (x + f * 2 ^ h) ≡ integer_to_bits h x ++ integer_to_bits c f
digits_join zero c m x f e l = grind (arith, ints, common_steps, digits-zero)
digits_join (suc h) c m x f e l =
    let k : m ≡ suc (h + c) = omega arith in
    let p : 2 ^ suc h ≡ 2 * 2 ^ h = pow-succ' 2 h in
    let q : f * 2 ^ suc h ≡ 2 * (f * 2 ^ h) = ap (λ n. f * n) p ∙ twice f (2 ^ h) in
    let low : (x + f * 2 ^ suc h) % 2 ≡ x % 2 = omega (arith, q) in
    let high : (x + f * 2 ^ suc h) / 2 ≡ x / 2 + f * 2 ^ h = omega (arith, q) in
    let rest = digits_join h c (h + c) (x / 2) f refl (omega (arith, p)) in
    rw (k, digits-suc (h + c) (x + f * 2 ^ suc h), digits-suc h x, low, high, rest) refl

pub length-digits : (w x : ℕ) → length (integer_to_bits w x) ≡ w
length-digits zero x = ap length (digits-zero x)
length-digits (suc w) x = ap length (digits-suc w x) ∙ ap suc (length-digits w (x / 2))

-- the digits of numbers

pub bits-nil : (w : ℕ) → bits w [] ≡ []
unfolding bits
bits-nil w = refl

pub bits-push : (w : ℕ) (xs : List ℕ) (x : ℕ) → bits w (xs ++ x ∷ []) ≡ bits w xs ++ integer_to_bits w x
unfolding bits
bits-push w xs x = sym (flat_map_more (integer_to_bits w) [] xs x)

-- a number is put above the digits that a word has

pub put_bits : (done : List ℕ) (c have word f : ℕ) (given : List ℕ) → word < 2 ^ have → done ++ integer_to_bits have word ≡ bits c given
    → done ++ integer_to_bits (have + c) (word + f * 2 ^ have) ≡ bits c (given ++ f ∷ [])
put_bits done c have word f given l e =
    rw (digits_join have c (have + c) word f refl l, ← append_assoc done (integer_to_bits have word) (integer_to_bits c f), e, bits-push c given f) refl

pub put_below : (c have word f : ℕ) → word < 2 ^ have → f < 2 ^ c → word + f * 2 ^ have < 2 ^ (have + c)
put_below c have word f l k = let h = mul-add-lt f (2 ^ have) word (2 ^ c) k l in omega (arith, h, pow-add 2 have c)

pub put_fits : (c have f : ℕ) → f < 2 ^ c → have + c ≤ 32 → f * 2 ^ have < 4294967296
put_fits c have f l k =
    let n : 2 ^ (c + have) ≤ 2 ^ 32 = pow-le-pow_right (omega arith) {i = c + have} {j = 32} (omega arith) in
    omega (arith, shl_below f c have l, n)

-- a number is taken from below

-- digits in two parts
pub digits_split : (s have word : ℕ) → s ≤ have → integer_to_bits s (word % 2 ^ s) ++ integer_to_bits (have - s) (word / 2 ^ s) ≡ integer_to_bits have word
digits_split s have word l =
    let n : have ≡ s + (have - s) = omega arith in
    let split : word % 2 ^ s + word / 2 ^ s * 2 ^ s ≡ word = omega (arith, shr_split word s) in
    sym (digits_join s (have - s) have (word % 2 ^ s) (word / 2 ^ s) n (mod_below word (2 ^ s) (pow_pos s))) ∙ ap (integer_to_bits have) split

pub give_bits : (s have word : ℕ) (given whole : List ℕ) → s ≤ have → bits s given ++ integer_to_bits have word ≡ whole
    → bits s (given ++ (word % 2 ^ s) ∷ []) ++ integer_to_bits (have - s) (word / 2 ^ s) ≡ whole
give_bits s have word given whole l e =
    rw (bits-push s given (word % 2 ^ s), append_assoc (bits s given) (integer_to_bits s (word % 2 ^ s)) (integer_to_bits (have - s) (word / 2 ^ s)), digits_split s have word l) e

pub give_below : (s have word : ℕ) → s ≤ have → word < 2 ^ have → word / 2 ^ s < 2 ^ (have - s)
give_below s have word l k = let n : have - s + s ≡ have = omega arith in shr_below word (have - s) s (rw n k)

pub low_small : (c n : ℕ) → c ≤ 21 → n % 2 ^ c < 2097152
low_small c n h = grind (arith, ints, common_steps, mod_below, pow_pos, pow-le-pow_right)

-- of eight fields of c bits, a whole byte that is taken has a place
pub place_within : (c i at have n : ℕ) → 8 * at + have ≡ c * (i + 1) → i < 8 → 8 ≤ have → n ≡ c → at < n
place_within c i at have n e l h k = let m : c * (i + 1) ≤ c * 8 = mul-le c (i + 1) c 8 (omega arith) (omega arith) in omega (arith, m)

-- and so has a byte that the next field needs
pub byte_within : (c i at have n : ℕ) → c * i + have ≡ 8 * at → i < 8 → have < c → n ≡ c → at < n
byte_within c i at have n e l h k = let m : c * (i + 1) ≤ c * 8 = mul-le c (i + 1) c 8 (omega arith) (omega arith) in omega (arith, m)

-- the digits determine the numbers

pub same_digits : (w x y : ℕ) → x < 2 ^ w → y < 2 ^ w → integer_to_bits w x ≡ integer_to_bits w y → x ≡ y
same_digits zero x y k l e = omega arith
same_digits (suc w) x y k l e =
    let p : 2 ^ suc w ≡ 2 * 2 ^ w = pow-succ' 2 w in
    let d : (x % 2) ∷ integer_to_bits w (x / 2) ≡ (y % 2) ∷ integer_to_bits w (y / 2) = sym (digits-suc w x) ∙ e ∙ digits-suc w y in
    let head : x % 2 ≡ y % 2 = cc in
    let tail : integer_to_bits w (x / 2) ≡ integer_to_bits w (y / 2) = cc in
    let rest = same_digits w (x / 2) (y / 2) (omega (arith, p)) (omega (arith, p)) tail in
    omega (arith, head, rest)

-- two joined lists, cut at one place
pub cut : (xs ys us vs : List ℕ) (n : ℕ) → length xs ≡ n → length ys ≡ n → xs ++ us ≡ ys ++ vs → (xs ≡ ys) × (us ≡ vs)
cut xs ys us vs n k l e = (sym (take_at xs us n k) ∙ ap (take n) e ∙ take_at ys vs n l, sym (drop_at xs us n k) ∙ ap (drop n) e ∙ drop_at ys vs n l)

pub same_numbers : (w : ℕ) (xs ys : List ℕ) → length xs ≡ length ys → All (λ x. x < 2 ^ w) xs → All (λ y. y < 2 ^ w) ys → bits w xs ≡ bits w ys → xs ≡ ys
unfolding bits
same_numbers w [] [] n p q e = refl
same_numbers w [] (y ∷ ys) n p q e = absurd (omega (arith, n))
same_numbers w (x ∷ xs) [] n p q e = absurd (omega (arith, n))
same_numbers w (x ∷ xs) (y ∷ ys) n p q e =
    let P = λ (z : ℕ). z < 2 ^ w in
    let both = cut (integer_to_bits w x) (integer_to_bits w y) (bits w xs) (bits w ys) w (length-digits w x) (length-digits w y) e in
    let head = same_digits w x y (All-head P x xs p) (All-head P y ys q) both.0 in
    let tail = same_numbers w xs ys (omega (arith, n)) (All-tail P x xs p) (All-tail P y ys q) both.1 in
    cc
