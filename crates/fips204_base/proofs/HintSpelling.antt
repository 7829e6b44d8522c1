-- The places of ones, and what the spelling of a hint says piece by piece: each hint has one, and bytes spell at most one.
use Rattle.std.proofs.Common.{map, ℕ, ℤ, pos, zero, suc, ◌+◌, ◌-◌, ◌<◌, ◌≤◌, ◌≤ℤ◌, ◌≡◌, List, [], ◌∷◌, ◌++◌, Bool, true, false, get_or, set, length, take, drop, refl, ap, sym, ◌∙◌, arith, append-nil, append_assoc, length-append, cond, inl, inr, int_lt, add-one, add-zero, get_or-take, get_or-drop, length-drop}
use Rattle.std.specs.List.{All, filter, range_with_len}
use Rattle.std.specs.Prelude.{replicate}
use Rattle.std.proofs.lemmas.List.{take_more_set, drop-set-lt, drop-drop, map-id, get_or-set_same, get_or-set_other, get_or_append_left, get_or_at, get_or-replicate, get_or_past, length-replicate, take_at, drop_at, take_more, take_all, take-append-drop, drop-take, take-take, take-set-le, get_or-append_right, length-take-le, length-map, same_from_push, ext_get_or}
use Rattle.std.proofs.lemmas.List.FromFn.{filter_of_map_range_with_len_more, get_or-map-range_with_len, length-range_with_len}
use Rattle.std.proofs.lemmas.List.Elements.{All-set, All-replicate, All-nil, All-push, All-weaker, All-get_or, All-same}
use Rattle.std.proofs.lemmas.Bool.{cases_lt, cases_Bool}
use Rattle.fips204_base.specs.EncodingSteps.{ones_below, ones}
use Rattle.fips204_base.specs.declared.types.R.{R}
use Rattle.fips204_base.specs.Encodings.{is_one, all_ones, hint_bytes, Spells}
use Rattle.fips204_base.specs.Bounds.{PolynomialInRange}
use Rattle.std.proofs.lemmas.List.Concat.{flat_map-append}
use Rattle.std.proofs.lemmas.Grind.{same_number_lists, common_steps}
use Rattle.fips204_base.specs.declared.types.TheConstants.{R0}
use Rattle.std.proofs.lemmas.Int.{ints}
use Rattle.fips204_base.specs.Vectors.{IsVector}

-- for each polynomial of a hint, how many ones there are up to its end
abbrev pub running_totals : List R → List ℕ
running_totals h = map (λ i. length (all_ones (take (i + 1) h))) (range_with_len 0 (length h))

-- The places of the ones of a polynomial.

pub ones-none : (w : R) → ones_below w zero ≡ []
unfolding ones_below
ones-none w = refl

pub ones-more : (w : R) (n : ℕ) → ones_below w (suc n) ≡ ones_below w n ++ cond (is_one w n) (n ∷ []) []
unfolding ones_below
ones-more w n =
    let one_place_more = filter_of_map_range_with_len_more (is_one w) (λ k. k) 0 n n (omega arith) in
    let longer = map-id (range_with_len 0 (n + 1)) in
    let shorter = map-id (range_with_len 0 n) in
    let next : n + 1 ≡ suc n = add-one n in
    rw (longer, shorter, next) at one_place_more

pub ones-keep : (w : R) (n : ℕ) → is_one w n ≡ true → ones_below w (suc n) ≡ ones_below w n ++ n ∷ []
ones-keep w n here = ones-more w n ∙ ap (λ b. ones_below w n ++ cond b (n ∷ []) []) here

pub ones-skip : (w : R) (n : ℕ) → is_one w n ≡ false → ones_below w (suc n) ≡ ones_below w n
ones-skip w n not = ones-more w n ∙ ap (λ b. ones_below w n ++ cond b (n ∷ []) []) not ∙ append-nil (ones_below w n)

pub ones-within : (w : R) (n : ℕ) → All (λ place. place < n) (ones_below w n)
ones-within w zero = rw (ones-none w) (All-nil (λ (place : ℕ). place < 0))
ones-within w (suc n) =
    let before = All-weaker (λ (place : ℕ). place < n) (λ (place : ℕ). place < suc n) (λ place h. omega arith) (ones_below w n) (ones-within w n) in
    grind (arith, ints, common_steps, before, cases_Bool, ones-keep, All-push, ones-skip)

-- they strictly rise
pub ones-rise : (w : R) (n k : ℕ) → k + 1 < length (ones_below w n) → get_or (ones_below w n) k 0 < get_or (ones_below w n) (k + 1) 0
ones-rise w zero k h = absurd (omega (arith, rw (ones-none w) at h))
ones-rise w (suc n) k h = elim (cases_Bool (is_one w n)) [
  | inl here ↦
      let kept = ones-keep w n here in
      let size : length (ones_below w (suc n)) ≡ length (ones_below w n) + 1 = ap length kept ∙ length-append (ones_below w n) (n ∷ []) in
      let first : get_or (ones_below w (suc n)) k 0 ≡ get_or (ones_below w n) k 0 = ap (λ l. get_or l k 0) kept ∙ get_or_append_left (ones_below w n) (n ∷ []) 0 k (omega (arith, size)) in
      elim (cases_lt (k + 1) (length (ones_below w n))) [
        | inl inside ↦
            let second : get_or (ones_below w (suc n)) (k + 1) 0 ≡ get_or (ones_below w n) (k + 1) 0 = ap (λ l. get_or l (k + 1) 0) kept ∙ get_or_append_left (ones_below w n) (n ∷ []) 0 (k + 1) inside in
            rw (first, second) (ones-rise w n k inside)
        | inr last ↦
            let second : get_or (ones_below w (suc n)) (k + 1) 0 ≡ n = ap (λ l. get_or l (k + 1) 0) kept ∙ get_or_at (ones_below w n) n [] 0 (k + 1) (omega (arith, size)) in
            rw (first, second) (All-get_or (λ (place : ℕ). place < n) (ones_below w n) k 0 (omega (arith, size)) (ones-within w n))
      ]
  | inr not ↦ rw (ones-skip w n not) (ones-rise w n k (rw (ones-skip w n not) at h))
]

pub rising : (places : List ℕ) (w : R) (k : ℕ) → 0 < k → k < length places → places ≡ ones w → get_or places (k - 1) 0 < get_or places k 0
rising places w k some inside e = grind (arith, ints, common_steps, ones-rise)

-- none from m on
ones-rest : (w : R) (m d : ℕ) → ((j : ℕ) → m ≤ j → is_one w j ≡ false) → ones_below w (m + d) ≡ ones_below w m
ones-rest w m zero h = ap (ones_below w) (omega arith)
ones-rest w m (suc d) h =
    let n : m + suc d ≡ suc (m + d) = omega arith in
    ap (ones_below w) n ∙ ones-skip w (m + d) (h (m + d) (omega arith)) ∙ ones-rest w m d h

is_one-same : (v w : R) (j : ℕ) → get_or v.0 j (pos 0) ≡ get_or w.0 j (pos 0) → is_one v j ≡ is_one w j
unfolding is_one
is_one-same v w j e = ap (λ x. int_lt (pos 0) x) e

not_one : (w : R) (j : ℕ) → get_or w.0 j (pos 0) ≡ pos 0 → is_one w j ≡ false
unfolding is_one
not_one w j e = ap (λ x. int_lt (pos 0) x) e

one : (w : R) (j : ℕ) → get_or w.0 j (pos 0) ≡ pos 1 → is_one w j ≡ true
unfolding is_one
one w j e = ap (λ x. int_lt (pos 0) x) e

pub is_one-test : (w : R) (j : ℕ) (x : ℤ) (b : Bool) → x ≡ get_or w.0 j (pos 0) → int_lt (pos 0) x ≡ b → is_one w j ≡ b
unfolding is_one
is_one-test w j x b e t = ap (λ z. int_lt (pos 0) z) (sym e) ∙ t

pub zero_at : (j : ℕ) → get_or (replicate 256 (pos 0)) j (pos 0) ≡ pos 0
zero_at j = elim (cases_lt j 256) [
  | inl h ↦ get_or-replicate 256 j (pos 0) (pos 0) h
  | inr h ↦ get_or_past (replicate 256 (pos 0)) j (pos 0) (omega (arith, length-replicate 256 (pos 0)))
]

pub ones-zeros : (w : R) → ((j : ℕ) → get_or w.0 j (pos 0) ≡ pos 0) → ones w ≡ []
ones-zeros w h = ones-rest w 0 256 (λ j k. not_one w j (h j)) ∙ ones-none w

same_ones : (v w : R) (n : ℕ) → ((j : ℕ) → j < n → is_one v j ≡ is_one w j) → ones_below v n ≡ ones_below w n
same_ones v w zero h = ones-none v ∙ sym (ones-none w)
same_ones v w (suc n) h =
    let before = same_ones v w n (λ j k. h j (omega arith)) in
    grind (arith, ints, common_steps, before, ones-more)

-- a one is set past all the others
pub ones-set : (row : List ℤ) (p : ℕ) → length row ≡ 256 → p < 256 → ((j : ℕ) → p ≤ j → get_or row j (pos 0) ≡ pos 0)
    → ones record { 0 = set row p (pos 1) } ≡ ones record { 0 = row } ++ p ∷ []
ones-set row p size within zeros =
    let v : R = record { 0 = row } in
    let w : R = record { 0 = set row p (pos 1) } in
    let old : (j : ℕ) → (j ≡ p → ⊥) → get_or w.0 j (pos 0) ≡ get_or row j (pos 0) = λ j ne. get_or-set_other row p j (pos 1) (pos 0) ne in
    let new : get_or w.0 p (pos 0) ≡ pos 1 = get_or-set_same row p (pos 1) (pos 0) (omega arith) in
    let low : ones_below w p ≡ ones_below v p = same_ones w v p (λ j k. is_one-same w v j (old j (λ e. omega (arith, e, k)))) in
    let middle : ones_below w (suc p) ≡ ones_below v p ++ p ∷ [] = ones-keep w p (one w p new) ∙ ap (λ l. l ++ p ∷ []) low in
    let n : suc p + (256 - suc p) ≡ 256 = omega arith in
    let m : p + (256 - p) ≡ 256 = omega arith in
    let high : ones_below w 256 ≡ ones_below w (suc p) =
    ap (ones_below w) (sym n) ∙ ones-rest w (suc p) (256 - suc p) (λ j k. not_one w j (old j (λ e. omega (arith, e, k)) ∙ zeros j (omega arith))) in
    let flat : ones_below v 256 ≡ ones_below v p = ap (ones_below v) (sym m) ∙ ones-rest v p (256 - p) (λ j k. not_one v j (zeros j k)) in
    high ∙ middle ∙ ap (λ l. l ++ p ∷ []) (sym flat)

pub zero_bits : PolynomialInRange (pos 0) (pos 1) (replicate 256 (pos 0))
zero_bits = All-replicate (λ (x : ℤ). (pos 0 ≤ℤ x) × (x ≤ℤ pos 1)) 256 (pos 0) (omega arith, omega arith)

pub bits-set : (row : List ℤ) (p : ℕ) → PolynomialInRange (pos 0) (pos 1) row → PolynomialInRange (pos 0) (pos 1) (set row p (pos 1))
bits-set row p h = All-set (λ (x : ℤ). (pos 0 ≤ℤ x) × (x ≤ℤ pos 1)) row p (pos 1) (omega arith, omega arith) h

-- ---- places written one after another

ones-longer : (w : R) (n d : ℕ) → length (ones_below w n) ≤ length (ones_below w (n + d))
ones-longer w n zero = let e = ap (λ k. length (ones_below w k)) (add-zero n) in omega (arith, e)
ones-longer w n (suc d) =
    let before = ones-longer w n d in
    let k : n + suc d ≡ suc (n + d) = omega arith in
    let e = ap length (ones-more w (n + d)) ∙ length-append (ones_below w (n + d)) (cond (is_one w (n + d)) ((n + d) ∷ []) []) in
    rw k (omega (arith, before, e))

pub ones-room : (w : R) (j from n at : ℕ) → is_one w j ≡ true → j < 256 → from + length (ones w) ≤ n → at ≡ from + length (ones_below w j) → at < n
ones-room w j from n at here inside room at-is =
    let size = ap length (ones-keep w j here) ∙ length-append (ones_below w j) (j ∷ []) in
    let all = ones-longer w (suc j) (256 - suc j) in
    let m : suc j + (256 - suc j) ≡ 256 = omega arith in
    let whole : length (ones_below w (suc j)) ≤ length (ones_below w 256) = rw m at all in
    omega (arith, size, whole)

-- a place is written after the ones before it
pub placed : (w : R) (j from at : ℕ) (y z : List ℕ) → is_one w j ≡ true → at < length z → at ≡ from + length (ones_below w j)
    → take at z ≡ take from y ++ ones_below w j → drop at z ≡ drop at y
    → (at + 1 ≡ from + length (ones_below w (j + 1))) × (take (at + 1) (set z at j) ≡ take from y ++ ones_below w (j + 1)) × (drop (at + 1) (set z at j) ≡ drop (at + 1) y)
placed w j from at y z here room at-is places rest =
    let kept : ones_below w (j + 1) ≡ ones_below w j ++ j ∷ [] = ap (ones_below w) (add-one j) ∙ ones-keep w j here in
    let size = ap length kept ∙ length-append (ones_below w j) (j ∷ []) in (
      omega (arith, size),
      take_more_set z at j room ∙ ap (λ l. l ++ j ∷ []) places ∙ append_assoc (take from y) (ones_below w j) (j ∷ []) ∙ ap (λ l. take from y ++ l) (sym kept),
      drop-set-lt (at + 1) z at j (omega arith) ∙ sym (drop-drop 1 at z) ∙ ap (drop 1) rest ∙ drop-drop 1 at y,
    )

-- What the spelling of a hint says piece by piece.

-- how many ones the bytes count before polynomial i
abbrev pub total_before : ℕ → List ℕ → ℕ → ℕ
total_before omega y zero = 0
total_before omega y (suc i) = get_or y (omega + i) 0

-- the bytes of a spelling, as they are read: the first omega, and then each total
pub record Pieces (omega : ℕ) (h : List R) (y : List ℕ) : Type 0 where
  pub few : length (all_ones h) ≤ omega
  pub places : take omega y ≡ all_ones h ++ replicate (omega - length (all_ones h)) 0
  pub totals : (i : ℕ) → i < length h → get_or y (omega + i) 0 ≡ length (all_ones (take (i + 1) h))

pub length-running_totals : (h : List R) → length (running_totals h) ≡ length h
length-running_totals h = length-map (range_with_len 0 (length h)) (λ i. length (all_ones (take (i + 1) h))) ∙ length-range_with_len 0 (length h)

running_total : (h : List R) (i : ℕ) → i < length h → get_or (running_totals h) i 0 ≡ length (all_ones (take (i + 1) h))
running_total h i l = get_or-map-range_with_len (λ i. length (all_ones (take (i + 1) h))) 0 (length h) i i 0 l (omega arith)

length-front : (o : ℕ) (h : List R) → length (all_ones h) ≤ o → length (all_ones h ++ replicate (o - length (all_ones h)) 0) ≡ o
length-front o h few = grind (arith, ints, common_steps, length-replicate, length-append)

pub pieces : (o k : ℕ) (h : List R) (y : List ℕ) → Spells o k h y → Pieces o h y
pieces o k h y s =
    let size = length-front o h s.few in
    record {
      few = s.few;
      places = ap (take o) (sym s.spelling) ∙ take_at (all_ones h ++ replicate (o - length (all_ones h)) 0) (running_totals h) o size;
      totals = λ i l.
          let rest : drop o y ≡ running_totals h = ap (drop o) (sym s.spelling) ∙ drop_at (all_ones h ++ replicate (o - length (all_ones h)) 0) (running_totals h) o size in
          sym (get_or-drop o y i 0) ∙ ap (λ l. get_or l i 0) rest ∙ running_total h i l;
    }

pub spelling : (o : ℕ) (h : List R) (y : List ℕ) → length y ≡ o + length h → Pieces o h y → hint_bytes o h ≡ y
spelling o h y size p =
    let left = length-drop o y in
    let count = length-running_totals h in
    let rest : drop o y ≡ running_totals h = same_number_lists (drop o y) (running_totals h) (omega (arith, left, size, count))
    (λ k l. get_or-drop o y k 0 ∙ p.totals k (omega (arith, left, size, l)) ∙ sym (running_total h k (omega (arith, left, size, l)))) in
    ap (λ l. (all_ones h ++ replicate (o - length (all_ones h)) 0) ++ l) (sym rest) ∙ ap (λ l. l ++ drop o y) (sym p.places) ∙ take-append-drop o y

-- the ones of no polynomial, of one, and of some after others
pub all_ones-none : all_ones [] ≡ []
unfolding all_ones
all_ones-none = refl

all_ones-one : (w : R) → all_ones (w ∷ []) ≡ ones w
unfolding all_ones ones_below
all_ones-one w = append-nil (filter (is_one w) (range_with_len 0 256))

all_ones-append : (g h : List R) → all_ones (g ++ h) ≡ all_ones g ++ all_ones h
unfolding all_ones
all_ones-append g h = flat_map-append (λ w. filter (is_one w) (range_with_len 0 256)) g h

-- the ones of one polynomial more
pub ones_more : (h : List R) (i : ℕ) (d : R) → i < length h → all_ones (take (i + 1) h) ≡ all_ones (take i h) ++ ones (get_or h i d)
ones_more h i d l =
    ap all_ones (take_more h i d l) ∙ all_ones-append (take i h) (get_or h i d ∷ []) ∙ ap (λ w. all_ones (take i h) ++ w) (all_ones-one (get_or h i d))

pub total_more : (h : List R) (i : ℕ) (d : R) → i < length h → length (all_ones (take (i + 1) h)) ≡ length (all_ones (take i h)) + length (ones (get_or h i d))
total_more h i d l = ap length (ones_more h i d l) ∙ length-append (all_ones (take i h)) (ones (get_or h i d))

pub total_le : (h : List R) (i : ℕ) → length (all_ones (take i h)) ≤ length (all_ones h)
total_le h i =
    let e : all_ones h ≡ all_ones (take i h) ++ all_ones (drop i h) = ap all_ones (sym (take-append-drop i h)) ∙ all_ones-append (take i h) (drop i h) in
    let l = ap length e ∙ length-append (all_ones (take i h)) (all_ones (drop i h)) in
    omega (arith, l)

pub before_is : (o : ℕ) (h : List R) (y : List ℕ) (i : ℕ) → Pieces o h y → i ≤ length h → total_before o y i ≡ length (all_ones (take i h))
before_is o h y zero p l = sym (ap length all_ones-none)
before_is o h y (suc i) p l = p.totals i (omega arith) ∙ ap (λ n. length (all_ones (take n h))) (add-one i)

-- the totals rise up to omega
pub totals_rise : (o : ℕ) (h : List R) (y : List ℕ) (i : ℕ) → Pieces o h y → i < length h → (total_before o y i ≤ get_or y (o + i) 0) × (get_or y (o + i) 0 ≤ o)
totals_rise o h y i p l =
    let a = before_is o h y i p (omega arith) in
    let b = p.totals i l in
    let m = total_more h i R0 l in
    let t = total_le h (i + 1) in
    let f = p.few in
    (omega (arith, a, b, m), omega (arith, b, t, f))

regroup : (a b c d e : List ℕ) → (((a ++ b) ++ c) ++ d) ++ e ≡ a ++ (b ++ (c ++ (d ++ e)))
regroup a b c d e = simp append_assoc

middle : (y a b c : List ℕ) (m n : ℕ) → y ≡ a ++ (b ++ c) → length a ≡ m → length b ≡ n → take n (drop m y) ≡ b
middle y a b c m n e k l = ap (λ x. take n (drop m x)) e ∙ ap (take n) (drop_at a (b ++ c) m k) ∙ take_at b c n l

-- the places of polynomial i
pub places_of : (o : ℕ) (h : List R) (y : List ℕ) (i : ℕ) → Pieces o h y → i < length h
    → take (get_or y (o + i) 0 - total_before o y i) (drop (total_before o y i) y) ≡ ones (get_or h i R0)
places_of o h y i p l =
    let a = before_is o h y i p (omega arith) in
    let b = p.totals i l in
    let m = total_more h i R0 l in
    let all : all_ones h ≡ (all_ones (take i h) ++ ones (get_or h i R0)) ++ all_ones (drop (i + 1) h) =
    ap all_ones (sym (take-append-drop (i + 1) h)) ∙ all_ones-append (take (i + 1) h) (drop (i + 1) h) ∙ ap (λ x. x ++ all_ones (drop (i + 1) h)) (ones_more h i R0 l) in
    let whole = sym (take-append-drop o y)
    ∙ ap (λ x. x ++ drop o y) (p.places ∙ ap (λ x. x ++ replicate (o - length (all_ones h)) 0) all)
    ∙ regroup (all_ones (take i h)) (ones (get_or h i R0)) (all_ones (drop (i + 1) h)) (replicate (o - length (all_ones h)) 0) (drop o y) in
    middle y (all_ones (take i h)) (ones (get_or h i R0)) (all_ones (drop (i + 1) h) ++ (replicate (o - length (all_ones h)) 0 ++ drop o y))
    (total_before o y i) (get_or y (o + i) 0 - total_before o y i) whole (sym a) (omega (arith, a, b, m))

-- and they rise strictly
pub piece_rises : (o : ℕ) (h : List R) (y : List ℕ) (i j : ℕ) → Pieces o h y → i < length h → total_before o y i ≤ j → j + 1 < get_or y (o + i) 0 → get_or y j 0 < get_or y (j + 1) 0
piece_rises o h y i j p l low high =
    let start = total_before o y i in
    let count = get_or y (o + i) 0 - start in
    let m : start + (j - start) ≡ j = omega (arith, low) in
    let n : start + (j - start + 1) ≡ j + 1 = omega (arith, low) in
    let places : take count (drop start y) ≡ ones_below (get_or h i R0) 256 = places_of o h y i p l in
    let at : (t : ℕ) → t < count → get_or (ones_below (get_or h i R0) 256) t 0 ≡ get_or y (start + t) 0 =
    λ t u. ap (λ b. get_or b t 0) (sym places) ∙ get_or-take count (drop start y) t 0 u ∙ get_or-drop start y t 0 in
    let long : get_or y (o + i) 0 ≡ start + length (ones_below (get_or h i R0) 256) = p.totals i l ∙ total_more h i R0 l ∙ ap (λ t. t + length (ones (get_or h i R0))) (sym (before_is o h y i p (omega arith))) in
    let rises = ones-rise (get_or h i R0) 256 (j - start) (omega (arith, low, high, long, m)) in
    let first : get_or (ones_below (get_or h i R0) 256) (j - start) 0 ≡ get_or y j 0 = at (j - start) (omega (arith, low, high, m)) ∙ ap (λ t. get_or y t 0) m in
    let second : get_or (ones_below (get_or h i R0) 256) (j - start + 1) 0 ≡ get_or y (j + 1) 0 = at (j - start + 1) (omega (arith, low, high, m)) ∙ ap (λ t. get_or y t 0) n in
    rw (first, second) at rises

-- zeros after the last place
pub zero_rest : (o : ℕ) (h : List R) (y : List ℕ) (k : ℕ) → Pieces o h y → total_before o y (length h) ≤ k → k < o → get_or y k 0 ≡ 0
zero_rest o h y k p l u =
    let a : total_before o y (length h) ≡ length (all_ones h) = before_is o h y (length h) p (omega arith) ∙ ap (λ x. length (all_ones x)) (take_all (length h) h (omega arith)) in
    let f = p.few in
    sym (get_or-take o y k 0 u) ∙ ap (λ x. get_or x k 0) p.places
    ∙ get_or-append_right (all_ones h) (replicate (o - length (all_ones h)) 0) (length (all_ones h)) k 0 refl (omega (arith, a, l))
    ∙ get_or-replicate (o - length (all_ones h)) (k - length (all_ones h)) 0 0 (omega (arith, a, l, f, u))

-- ---- pieces put together

take_join : (m n : ℕ) (y : List ℕ) → m ≤ n → take n y ≡ take m y ++ take (n - m) (drop m y)
take_join m n y l =
    let e : m + (n - m) ≡ n = omega arith in
    let d : drop m (take n y) ≡ take (n - m) (drop m y) = ap (λ k. drop m (take k y)) (sym e) ∙ drop-take m (n - m) y in
    sym (take-append-drop m (take n y)) ∙ ap (λ x. x ++ drop m (take n y)) (take-take m n y l) ∙ ap (λ x. take m y ++ x) d

-- one polynomial more is read
pub one_more : (h : List R) (y : List ℕ) (i index end : ℕ) (w : R) → i < length h → index ≤ end → take index y ≡ all_ones (take i h)
    → take (end - index) (drop index y) ≡ ones w → take end y ≡ all_ones (take (i + 1) (set h i w))
one_more h y i index end w l le so_far here = grind (arith, ints, common_steps, take_join, all_ones-one, all_ones-append, take_more_set)

pub totals_more : (h : List R) (y : List ℕ) (o i end : ℕ) (w : R) → i < length h → o + i < length y → end ≡ get_or y (o + i) 0 → end ≤ length y → take end y ≡ all_ones (take (i + 1) (set h i w))
    → ((k : ℕ) → k < i → get_or y (o + k) 0 ≡ length (all_ones (take (k + 1) h)))
    → (k : ℕ) → k < i + 1 → get_or y (o + k) 0 ≡ length (all_ones (take (k + 1) (set h i w)))
totals_more h y o i end w size l e le whole so_far k kl = grind (arith, ints, common_steps, cases_lt, take-set-le, length-take-le)

pub gathered : (h : List R) (y : List ℕ) (o index : ℕ) → index ≤ o → length y ≡ o + length h → take index y ≡ all_ones h
    → ((k : ℕ) → k < length h → get_or y (o + k) 0 ≡ length (all_ones (take (k + 1) h)))
    → ((j : ℕ) → index ≤ j → j < o → get_or y j 0 ≡ 0) → Pieces o h y
gathered h y o index few size places totals zeros = grind (arith, ints, common_steps, length-take-le, length-drop, same_number_lists, length-replicate, get_or-take, get_or-drop, get_or-replicate, take_join)

-- the places of one polynomial more are written, and then its total
pub places_written : (h : List R) (y z : List ℕ) (o i index end : ℕ) (d : R) → i < length h → o + i < length z → end ≤ o
    → take index y ≡ all_ones (take i h) → index ≡ length (all_ones (take i h)) → end ≡ index + length (ones (get_or h i d))
    → take end z ≡ take index y ++ ones (get_or h i d) → drop end z ≡ drop end y
    → ((k : ℕ) → k < i → get_or y (o + k) 0 ≡ length (all_ones (take (k + 1) h))) → ((j : ℕ) → index ≤ j → j < o → get_or y j 0 ≡ 0)
    → (end ≡ length (all_ones (take (i + 1) h)))
    × (take end (set z (o + i) end) ≡ all_ones (take (i + 1) h))
    × ((k : ℕ) → k < i + 1 → get_or (set z (o + i) end) (o + k) 0 ≡ length (all_ones (take (k + 1) h)))
    × ((j : ℕ) → end ≤ j → j < o → get_or (set z (o + i) end) j 0 ≡ 0)
places_written h y z o i index end d l room few places at more new rest totals zeros =
    let total = total_more h i d l in
    let count : end ≡ length (all_ones (take (i + 1) h)) = omega (arith, at, more, total) in
    let same : (j : ℕ) → end ≤ j → get_or z j 0 ≡ get_or y j 0 = λ j le.
    let n : end + (j - end) ≡ j = omega arith in
    ap (λ k. get_or z k 0) (sym n) ∙ sym (get_or-drop end z (j - end) 0) ∙ ap (λ x. get_or x (j - end) 0) rest ∙ get_or-drop end y (j - end) 0 ∙ ap (λ k. get_or y k 0) n in (
      count,
      take-set-le end z (o + i) end (omega arith) ∙ new ∙ ap (λ x. x ++ ones (get_or h i d)) places ∙ sym (ones_more h i d l),
      λ k kl. elim (cases_lt k i) [
        | inl less ↦ get_or-set_other z (o + i) (o + k) end 0 (λ e. omega (arith, e, less)) ∙ same (o + k) (omega arith) ∙ totals k less
        | inr last ↦
            let n : k ≡ i = omega (arith, last, kl) in
            rw n (get_or-set_same z (o + i) end 0 room ∙ count)
      ],
      λ j le u. get_or-set_other z (o + i) j end 0 (λ e. omega (arith, e, u)) ∙ same j le ∙ zeros j (omega (arith, le, more)) u,
    )

-- A hint has one spelling, and bytes spell at most one hint.

-- ---- the places of ones tell the polynomial

not_longer : (xs ys : List ℕ) (n : ℕ) → All (λ place. place < n) ys → ys ≡ xs ++ n ∷ [] → ⊥
not_longer xs ys n h e = grind (arith, ints, common_steps, All-same, get_or_at, All-get_or, length-append)

one_place_more : (v w : R) (n j : ℕ) → j < suc n → ((k : ℕ) → k < n → is_one v k ≡ is_one w k) → is_one v n ≡ is_one w n → is_one v j ≡ is_one w j
one_place_more v w n j l before here = grind (arith, ints, common_steps, cases_lt)

same_tests : (v w : R) (n : ℕ) → ones_below v n ≡ ones_below w n → (j : ℕ) → j < n → is_one v j ≡ is_one w j
same_tests v w zero e j l = absurd (omega arith)
same_tests v w (suc n) e j l = elim (cases_Bool (is_one v n)) [
  | inl a ↦ elim (cases_Bool (is_one w n)) [
    | inl b ↦
        let both = same_from_push (ones_below v n) (ones_below w n) n n (sym (ones-keep v n a) ∙ e ∙ ones-keep w n b) in
        one_place_more v w n j l (same_tests v w n both.0) (a ∙ sym b)
    | inr b ↦ absurd (not_longer (ones_below v n) (ones_below w n) n (ones-within w n) (sym (ones-skip w n b) ∙ sym e ∙ ones-keep v n a))
  ]
  | inr a ↦ elim (cases_Bool (is_one w n)) [
    | inl b ↦ absurd (not_longer (ones_below w n) (ones_below v n) n (ones-within v n) (sym (ones-skip v n a) ∙ e ∙ ones-keep w n b))
    | inr b ↦ one_place_more v w n j l (same_tests v w n (sym (ones-skip v n a) ∙ e ∙ ones-skip w n b)) (a ∙ sym b)
  ]
]

same_bit : (x y : ℤ) → (pos 0 ≤ℤ x) × (x ≤ℤ pos 1) → (pos 0 ≤ℤ y) × (y ≤ℤ pos 1) → int_lt (pos 0) x ≡ int_lt (pos 0) y → x ≡ y
same_bit x y a b e = grind (arith, ints, a, b, e)

tests_of : (v w : R) (j : ℕ) → is_one v j ≡ is_one w j → int_lt (pos 0) (get_or v.0 j (pos 0)) ≡ int_lt (pos 0) (get_or w.0 j (pos 0))
unfolding is_one
tests_of v w j e = e

pub ones-polynomial : (v w : R) → length v.0 ≡ 256 → length w.0 ≡ 256 → PolynomialInRange (pos 0) (pos 1) v.0 → PolynomialInRange (pos 0) (pos 1) w.0 → ones v ≡ ones w → v ≡ w
ones-polynomial v w m n a b e =
    let lists : v.0 ≡ w.0 = ext_get_or (pos 0) v.0 w.0 (m ∙ sym n) (λ j l.
    same_bit (get_or v.0 j (pos 0)) (get_or w.0 j (pos 0)) (a j (pos 0) l) (b j (pos 0) (omega (arith, m, n, l))) (tests_of v w j (same_tests v w 256 e j (omega (arith, m, l))))) in
    ap (λ (l : List ℤ). let t : R = record { 0 = l } in t) lists

-- ---- hints

-- bytes spell at most one hint
pub one_hint : (o k : ℕ) (g h : List R) (y : List ℕ) → Spells o k g y → Spells o k h y → g ≡ h
one_hint o k g h y s t =
    let u = s.hint in
    let v = t.hint in
    let n : length g ≡ length h = u.rows ∙ sym v.rows in
    ext_get_or R0 g h n (λ i l.
    let m : i < length h = omega (arith, n, l) in
    ones-polynomial (get_or g i R0) (get_or h i R0) (u.places i R0 l) (v.places i R0 m) (u.range i R0 l) (v.range i R0 m) (sym (places_of o g y i (pieces o k g y s) l) ∙ places_of o h y i (pieces o k h y t) m))

-- a hint with at most omega ones has a spelling, and no other
pub spelling_exists : (o k : ℕ) (h : List R) → IsVector k 0 1 h → length (all_ones h) ≤ o → Spells o k h (hint_bytes o h)
spelling_exists o k h bits few = record { hint = bits; few = few; spelling = refl }

pub one_spelling : (o k : ℕ) (h : List R) (y z : List ℕ) → Spells o k h y → Spells o k h z → y ≡ z
one_spelling o k h y z s t = sym s.spelling ∙ t.spelling
