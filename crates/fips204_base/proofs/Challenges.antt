-- A challenge has tau coefficients 1 or -1, at places that all differ, and 0 elsewhere; its picks, one after another.
use Rattle.std.proofs.Common.{◌≡◌, ℕ, zero, suc, ◌+◌, ◌*◌, ◌%◌, ◌/◌, ◌^◌, ◌<◌, ℤ, List, length, take, drop, get_or, refl, ap, sym, ◌∙◌, arith, get_or-drop, get_or-take, pos, negsuc, true, false, to_z, of_z, ◌≤◌, ◌-◌, [], ◌∷◌, ◌+ℤ◌, Some, length-take, inl, inr, if◌then◌else◌, ◌++◌, set, map, rules, length-append, add-zero, replicate, length-set, append-nil, length-take-le, length-drop, None}
use Rattle.std.specs.Prelude.{◌≢◌, nat_eq, nat_le, nat_lt}
use Rattle.std.specs.Int.{w32}
use Rattle.std.proofs.lemmas.Bool.Decides.{nat_tests}
use Rattle.fips204_base.specs.SamplerSteps.{sign_of}
use Rattle.fips204_base.specs.Sampling.{picks, moved, places, signed_sum, challenge}
use Rattle.std.proofs.Math.Nat.{pow-succ', div-div-eq-div-mul}
use Rattle.fips204_base.specs.Packing.{bits, integer_to_bits}
use Rattle.fips204_base.proofs.Bits.{digits-suc}
use Rattle.fips204_base.proofs.Packing.{digits_at, length-bits}
use Rattle.std.proofs.lemmas.Int.{ints}
use Rattle.std.proofs.lemmas.Bool.{cases_Bool, cases_lt, eqb-true, eqb-false, leb-true, ne_eqb, lt-ltb, le-ltb, cases_eq}
use Rattle.std.proofs.lemmas.Option.{none-some}
use Rattle.std.proofs.lemmas.List.{get_or-set_same, get_or-set_other, get_or-replicate, length-map, take_more, take_all, take-append-le}
use Rattle.fips204_base.specs.declared.types.R.{R}
use Rattle.fips204_base.specs.Vectors.{polynomial_of}
use Rattle.fips204_base.proofs.Vectors.{polynomial_of-same}
use Rattle.std.specs.List.{All}
use Rattle.std.proofs.lemmas.List.Elements.{All-append, All-cons, All-map, All-nil, All-tail}
use Rattle.std.proofs.Math.Seq.{take-add}
use Rattle.std.proofs.lemmas.Grind.{common_steps}

-- the picks of 256 - tau to 255 from the bytes after the first eight, a quarter as many as the output has
unfoldable pub challenge_picks : ℕ → List ℕ → List ℕ
challenge_picks tau front = take tau (picks (256 - tau) (take (length front / 4) (drop 8 front)))

-- One bit of bytes.

digit : (w x k : ℕ) → k < w → get_or (integer_to_bits w x) k 0 ≡ x / 2 ^ k % 2
digit zero x k l = absurd (omega (arith, l))
digit (suc w) x zero l = ap (λ digits. get_or digits 0 0) (digits-suc w x) ∙ omega arith
digit (suc w) x (suc k) l =
    let p : 2 ^ suc k ≡ 2 * 2 ^ k = pow-succ' 2 k in
    let halves : x / 2 / 2 ^ k ≡ x / 2 ^ suc k = div-div-eq-div-mul x 2 (2 ^ k) ∙ ap (λ n. x / n) (sym p) in
    ap (λ digits. get_or digits (suc k) 0) (digits-suc w x) ∙ digit w (x / 2) k (omega (arith, l)) ∙ ap (λ n. n % 2) halves

pub bit_at : (bytes : List ℕ) (k : ℕ) → k < 8 * length bytes → get_or (bits 8 bytes) k 0 ≡ get_or bytes (k / 8) 0 / 2 ^ (k % 8) % 2
bit_at bytes k l =
    let split : 8 * (k / 8) + k % 8 ≡ k = omega arith in
    let at : get_or (take 8 (drop (8 * (k / 8)) (bits 8 bytes))) (k % 8) 0 ≡ get_or (bits 8 bytes) k 0 =
    get_or-take 8 (drop (8 * (k / 8)) (bits 8 bytes)) (k % 8) 0 (omega arith) ∙ get_or-drop (8 * (k / 8)) (bits 8 bytes) (k % 8) 0 ∙ ap (λ n. get_or (bits 8 bytes) n 0) split in
    sym at ∙ ap (λ digits. get_or digits (k % 8) 0) (digits_at 8 (k / 8) bytes (omega (arith, l))) ∙ digit 8 (get_or bytes (k / 8) 0) (k % 8) (omega arith)

pub sign-set : (bit : ℕ) → bit ≡ 1 → negsuc 0 ≡ sign_of bit
sign-set bit e = rw e refl

pub sign-clear : (bit : ℕ) → bit ≢ 1 → pos 1 ≡ sign_of bit
sign-clear bit n = let t : nat_eq bit 1 ≡ false = grind (arith, nat_tests) in rw t refl

sign-fits : (bit : ℕ) → to_z w32 (of_z w32 (sign_of bit)) ≡ sign_of bit
sign-fits bit = grind (arith, ints, common_steps)

pub sign-read : (bit : ℕ) (x : ℤ) → x ≡ sign_of bit → to_z w32 (of_z w32 x) ≡ x
sign-read bit x e = rw e (sign-fits bit)

-- A challenge has tau coefficients 1 or -1, at places that all differ, and 0 elsewhere.

-- ---- places

-- where a coefficient is after the pick of i
abbrev pub moved_once : ℕ → ℕ → ℕ → ℕ
moved_once i pick place = if nat_eq pick place then i else place

pub moved_once-below : (i pick place : ℕ) → place < i → moved_once i pick place < i + 1
moved_once-below i pick place h = grind (arith, ints, common_steps, cases_Bool)

moved_once-other : (i pick place : ℕ) → place < i → moved_once i pick place ≡ pick → ⊥
moved_once-other i pick place h e = grind (arith, ints, common_steps, cases_Bool, eqb-true, eqb-false)

moved_once-apart : (i pick a b : ℕ) → a < i → b < i → (a ≡ b → ⊥) → moved_once i pick a ≡ moved_once i pick b → ⊥
moved_once-apart i pick a b h k apart e = grind (arith, ints, common_steps, cases_Bool, eqb-true)

moved-apart : (later : List ℕ) (i a b : ℕ) → a < i → b < i → (a ≡ b → ⊥) → moved i a later ≡ moved i b later → ⊥
unfolding moved
moved-apart [] i a b h k apart e = apart e
moved-apart (pick ∷ later) i a b h k apart e =
    moved-apart later (i + 1) (moved_once i pick a) (moved_once i pick b) (moved_once-below i pick a h) (moved_once-below i pick b k) (moved_once-apart i pick a b h k apart) e

-- each pick is at most its number
abbrev AreWithin : ℕ → List ℕ → Type 0
AreWithin i ps = (k : ℕ) → k < length ps → get_or ps k 0 ≤ i + k

later-within : (i pick : ℕ) (ps : List ℕ) → AreWithin i (pick ∷ ps) → AreWithin (i + 1) ps
later-within i pick ps within k h = let more : get_or ps k 0 ≤ i + suc k = within (suc k) (omega (arith, h)) in omega (arith, more)

first-within : (i pick : ℕ) (ps : List ℕ) → AreWithin i (pick ∷ ps) → pick ≤ i
first-within i pick ps within = let first : pick ≤ i + 0 = within 0 (omega arith) in omega (arith, first)

pub length-places : (ps : List ℕ) (i : ℕ) → length (places i ps) ≡ length ps
unfolding places
length-places [] i = refl
length-places (pick ∷ ps) i = ap suc (length-places ps (i + 1))

-- a coefficient that was there before i ends at none of the places of later ones
fresh : (ps : List ℕ) (i place k : ℕ) → place < i → AreWithin i ps → k < length ps → get_or (places i ps) k 0 ≡ moved i place ps → ⊥
unfolding places moved
fresh [] i place k h within l e = absurd (omega (arith, l))
fresh (pick ∷ ps) i place zero h within l e =
    moved-apart ps (i + 1) pick (moved_once i pick place) (omega (arith, first-within i pick ps within)) (moved_once-below i pick place h) (λ same. moved_once-other i pick place h (sym same)) e
fresh (pick ∷ ps) i place (suc k) h within l e = fresh ps (i + 1) (moved_once i pick place) k (moved_once-below i pick place h) (later-within i pick ps within) (omega (arith, l)) e

pub places-apart : (ps : List ℕ) (i j k : ℕ) → AreWithin i ps → j < k → k < length ps → get_or (places i ps) j 0 ≡ get_or (places i ps) k 0 → ⊥
unfolding places
places-apart [] i j k within h l e = absurd (omega (arith, l))
places-apart (pick ∷ ps) i j zero within h l e = absurd (omega (arith, h))
places-apart (pick ∷ ps) i zero (suc k) within h l e =
    fresh ps (i + 1) pick k (omega (arith, first-within i pick ps within)) (later-within i pick ps within) (omega (arith, l)) (sym e)
places-apart (pick ∷ ps) i (suc j) (suc k) within h l e = places-apart ps (i + 1) j k (later-within i pick ps within) (omega (arith, h)) (omega (arith, l)) e

-- ---- picks

picked : (byte i : ℕ) (ps : List ℕ) → byte ≤ i → AreWithin (i + 1) ps → AreWithin i (byte ∷ ps)
picked byte i ps h within zero l = omega (arith, h)
picked byte i ps h within (suc k) l = let more = within k (omega (arith, l)) in omega (arith, more)

pub picks-within : (bytes : List ℕ) (i : ℕ) → AreWithin i (picks i bytes)
unfolding picks
picks-within [] i = λ k h. absurd (omega (arith, h))
picks-within (byte ∷ bytes) i = elim (cases_Bool (nat_le byte i)) [
  | inl here ↦ rw here (picked byte i (picks (i + 1) bytes) (leb-true byte i here) (picks-within bytes (i + 1)))
  | inr not ↦ rw not (picks-within bytes i)
]

-- ---- the sum

pub sum-elsewhere : (ps sign_bits : List ℕ) (n : ℕ) → ((k : ℕ) → k < length ps → get_or ps k 0 ≡ n → ⊥) → signed_sum ps sign_bits n ≡ pos 0
unfolding signed_sum
sum-elsewhere [] sign_bits n other = refl
sum-elsewhere (place ∷ ps) [] n other = refl
sum-elsewhere (place ∷ ps) (bit ∷ sign_bits) n other =
    let not : nat_eq place n ≡ false = ne_eqb place n (other 0 (omega arith)) in
    let rest = sum-elsewhere ps sign_bits n (λ k h. other (suc k) (omega (arith, h))) in
    rw (not, rest) refl

-- ---- the challenge

-- the places of a challenge's coefficients
abbrev pub challenge_places : ℕ → List ℕ → List ℕ
challenge_places tau front = places (256 - tau) (challenge_picks tau front)

taken-within : (i n : ℕ) (ps : List ℕ) → AreWithin i ps → AreWithin i (take n ps)
taken-within i n ps within k h = grind (arith, ints, common_steps, length-take, get_or-take)

at_most : (tau : ℕ) (front : List ℕ) → length (challenge_picks tau front) ≤ tau
unfolding challenge_picks
at_most tau front = let short = length-take tau (picks (256 - tau) (take (length front / 4) (drop 8 front))) in omega (arith, short)

picks_within : (tau : ℕ) (front : List ℕ) → AreWithin (256 - tau) (challenge_picks tau front)
unfolding challenge_picks
picks_within tau front = taken-within (256 - tau) tau (picks (256 - tau) (take (length front / 4) (drop 8 front))) (picks-within (take (length front / 4) (drop 8 front)) (256 - tau))

whole : (tau : ℕ) (front : List ℕ) (c : R) → challenge tau front ≡ Some c
    → (length (challenge_picks tau front) ≡ tau) × AreWithin (256 - tau) (challenge_picks tau front) × (c ≡ polynomial_of (signed_sum (challenge_places tau front) (bits 8 (take 8 front))))
unfolding challenge challenge_picks
whole tau front c e = elim (cases_lt (length (challenge_picks tau front)) tau) [
  | inl few ↦
      let test : nat_lt (length (challenge_picks tau front)) tau ≡ true = lt-ltb (length (challenge_picks tau front)) tau few in
      absurd (none-some c (rw test at e))
  | inr enough ↦
      let test : nat_lt (length (challenge_picks tau front)) tau ≡ false = le-ltb (length (challenge_picks tau front)) tau enough in
      let made : Some (polynomial_of (signed_sum (challenge_places tau front) (bits 8 (take 8 front)))) ≡ Some c = rw test at e in
      let same : polynomial_of (signed_sum (challenge_places tau front) (bits 8 (take 8 front))) ≡ c = cc in
      (omega (arith, enough, at_most tau front), picks_within tau front, sym same)
]

-- the picks of a challenge are tau
pub length-challenge_picks : (tau : ℕ) (front : List ℕ) (c : R) → challenge tau front ≡ Some c → length (challenge_picks tau front) ≡ tau
length-challenge_picks tau front c e = (whole tau front c e).0

-- the places are tau numbers below 256
pub length-challenge_places : (tau : ℕ) (front : List ℕ) (c : R) → challenge tau front ≡ Some c → length (challenge_places tau front) ≡ tau
length-challenge_places tau front c e = length-places (challenge_picks tau front) (256 - tau) ∙ (whole tau front c e).0

-- no two are the same
pub challenge_places-apart : (tau : ℕ) (front : List ℕ) (c : R) (j k : ℕ) → challenge tau front ≡ Some c → j < k → k < tau → get_or (challenge_places tau front) j 0 ≡ get_or (challenge_places tau front) k 0 → ⊥
challenge_places-apart tau front c j k e l h = let w = whole tau front c e in places-apart (challenge_picks tau front) (256 - tau) j k w.1 l (omega (arith, h, w.0))

-- The picks of a challenge and the places that they lead to, one pick after another.

-- picks

pub picks-nil : (i : ℕ) → picks i [] ≡ []
unfolding picks
picks-nil i = refl

pub picks-append : (i : ℕ) (xs ys : List ℕ) → picks i (xs ++ ys) ≡ picks i xs ++ picks (i + length (picks i xs)) ys
unfolding picks
picks-append i [] ys = ap (λ n. picks n ys) (sym (add-zero i))
picks-append i (x ∷ xs) ys = elim (cases_lt i x) [
  | inl l ↦
      let t : nat_le x i ≡ false = search (rules, nat_tests) in
      rw t (picks-append i xs ys)
  | inr g ↦
      let t : nat_le x i ≡ true = search (rules, nat_tests) in
      let n : i + suc (length (picks (i + 1) xs)) ≡ i + 1 + length (picks (i + 1) xs) = omega arith in
      rw t (rw n (ap (λ l. x ∷ l) (picks-append (i + 1) xs ys)))
]

-- one more pick

moved-push : (i place pick j : ℕ) (later : List ℕ) → i + length later ≡ j → moved i place (later ++ pick ∷ []) ≡ moved_once j pick (moved i place later)
unfolding moved
moved-push i place pick j [] e = let n : i ≡ j = omega arith in rw n refl
moved-push i place pick j (p ∷ later) e = moved-push (i + 1) (if nat_eq p place then i else place) pick j later (omega (arith, e))

pub places-push : (i pick j : ℕ) (before : List ℕ) → i + length before ≡ j → places i (before ++ pick ∷ []) ≡ map (moved_once j pick) (places i before) ++ pick ∷ []
unfolding places moved
places-push i pick j [] e = refl
places-push i pick j (p ∷ before) e =
    let rest = places-push (i + 1) pick j before (omega (arith, e)) in
    grind (arith, ints, common_steps, rest, moved-push)

moved_below : (ps : List ℕ) (i j : ℕ) → All (λ p. p < i) ps → All (λ p. p < i + 1) (map (moved_once i j) ps)
moved_below ps i j h = All-map (λ p. p < i + 1) (moved_once i j) ps (λ k d l. moved_once-below i j (get_or ps k d) (h k d l))

one_below : (i j : ℕ) → j ≤ i → All (λ p. p < i + 1) (j ∷ [])
one_below i j l = All-cons (λ p. p < i + 1) j [] (omega (arith, l)) (All-nil (λ p. p < i + 1))

-- all places of earlier coefficients are below the next
pub below-push : (ps : List ℕ) (i j : ℕ) → j ≤ i → All (λ p. p < i) ps → All (λ p. p < i + 1) (map (moved_once i j) ps ++ j ∷ [])
below-push ps i j l h = All-append (λ p. p < i + 1) (map (moved_once i j) ps) (j ∷ []) (moved_below ps i j h) (one_below i j l)

-- what a sum is at a number

sum-push : (ps bits : List ℕ) (p n : ℕ) → length ps < length bits
    → signed_sum (ps ++ p ∷ []) bits n ≡ signed_sum ps bits n +ℤ (if nat_eq p n then sign_of (get_or bits (length ps) 0) else pos 0)
unfolding signed_sum
sum-push [] [] p n l = absurd (omega (arith, l))
sum-push [] (b ∷ bits) p n l = omega (arith, ints)
sum-push (q ∷ ps) [] p n l = absurd (omega (arith, l))
sum-push (q ∷ ps) (b ∷ bits) p n l =
    let rest = sum-push ps bits p n (omega (arith, l)) in
    rw rest (omega (arith, ints))

-- places that are moved, and a number that is at a place after the move where another was before it
sum-moved : (f : ℕ → ℕ) (ps bits : List ℕ) (n m : ℕ) → All (λ p. nat_eq (f p) n ≡ nat_eq p m) ps → signed_sum (map f ps) bits n ≡ signed_sum ps bits m
unfolding signed_sum
sum-moved f [] bits n m h = refl
sum-moved f (p ∷ ps) [] n m h = refl
sum-moved f (p ∷ ps) (b ∷ bits) n m h =
    let here : nat_eq (f p) n ≡ nat_eq p m = h 0 0 (omega arith) in
    let rest = sum-moved f ps bits n m (All-tail (λ p. nat_eq (f p) n ≡ nat_eq p m) p ps h) in
    rw (here, rest) refl

-- no place is at the number
sum-none : (ps bits : List ℕ) (n : ℕ) → All (λ p. nat_eq p n ≡ false) ps → signed_sum ps bits n ≡ pos 0
sum-none ps bits n h = sum-elsewhere ps bits n (λ k l. eqb-false (get_or ps k 0) n (h k 0 l))

-- a place after the pick of i, where it was below i before it

moved-at_pick : (i j p : ℕ) → p < i → nat_eq (moved_once i j p) j ≡ false
moved-at_pick i j p l = grind (arith, nat_tests)

moved-at_next : (i j p : ℕ) → p < i → nat_eq (moved_once i j p) i ≡ nat_eq p j
moved-at_next i j p l = grind (arith, nat_tests)

moved-elsewhere : (i j p n : ℕ) → n ≢ i → n ≢ j → nat_eq (moved_once i j p) n ≡ nat_eq p n
moved-elsewhere i j p n a b = grind (arith, nat_tests)

-- the challenge so far: a list of coefficients, and the number that picks next

pub record Placed (first : ℕ) (bits picked : List ℕ) (c : List ℤ) (i : ℕ) : Type 0 where
  pub next : i ≡ first + length picked
  pub whole : length c ≡ 256
  pub below : All (λ p. p < i) (places first picked)
  pub sums : (n : ℕ) → n < 256 → get_or c n (pos 0) ≡ signed_sum (places first picked) bits n

pub placed_none : (first : ℕ) (bits : List ℕ) → Placed first bits [] (replicate 256 (pos 0)) first
unfolding places signed_sum
placed_none first bits = record {
  next = omega arith;
  whole = refl;
  below = All-nil (λ p. p < first);
  sums = λ n l. get_or-replicate 256 n (pos 0) (pos 0) l;
}

step_sums : (ps bits : List ℕ) (c : List ℤ) (i j n : ℕ) (x : ℤ) → length c ≡ 256 → i < 256 → j ≤ i → All (λ p. p < i) ps → length ps < length bits → x ≡ sign_of (get_or bits (length ps) 0)
    → ((n : ℕ) → n < 256 → get_or c n (pos 0) ≡ signed_sum ps bits n) → n < 256
    → get_or (set (set c i (get_or c j (pos 0))) j x) n (pos 0) ≡ signed_sum (map (moved_once i j) ps ++ j ∷ []) bits n
step_sums ps bits c i j n x w l m below room s sums h =
    let long : length (map (moved_once i j) ps) ≡ length ps = length-map ps (moved_once i j) in
    let pushed : signed_sum (map (moved_once i j) ps ++ j ∷ []) bits n ≡ signed_sum (map (moved_once i j) ps) bits n +ℤ (if nat_eq j n then x else pos 0) =
    sum-push (map (moved_once i j) ps) bits j n (omega (arith, long, room)) ∙ rw (long, s) refl in
    let inner : length (set c i (get_or c j (pos 0))) ≡ 256 = length-set c i (get_or c j (pos 0)) ∙ w in
    elim (cases_eq n j) [
      | inl at ↦
          let t : nat_eq j n ≡ true = grind (arith, nat_tests) in
          let none : signed_sum (map (moved_once i j) ps) bits n ≡ pos 0 = sum-none (map (moved_once i j) ps) bits n (All-map (λ p. nat_eq p n ≡ false) (moved_once i j) ps (λ k d l. rw at (moved-at_pick i j (get_or ps k d) (below k d l)))) in
          let here : get_or (set (set c i (get_or c j (pos 0))) j x) n (pos 0) ≡ x = rw at (get_or-set_same (set c i (get_or c j (pos 0))) j x (pos 0) (omega (arith, inner, l, m))) in
          here ∙ sym (pushed ∙ rw (none, t) (omega (arith, ints)))
      | inr off ↦
          let t : nat_eq j n ≡ false = grind (arith, nat_tests) in
          let past : get_or (set (set c i (get_or c j (pos 0))) j x) n (pos 0) ≡ get_or (set c i (get_or c j (pos 0))) n (pos 0) = get_or-set_other (set c i (get_or c j (pos 0))) j n x (pos 0) off in
          let same : signed_sum (map (moved_once i j) ps) bits n ≡ get_or (set c i (get_or c j (pos 0))) n (pos 0) = elim (cases_eq n i) [
            | inl at ↦
                rw at (sum-moved (moved_once i j) ps bits i j (λ k d l. moved-at_next i j (get_or ps k d) (below k d l)) ∙ sym (sums j (omega (arith, l, m))) ∙ sym (get_or-set_same c i (get_or c j (pos 0)) (pos 0) (omega (arith, w, l))))
            | inr away ↦
                sum-moved (moved_once i j) ps bits n n (λ k d l. moved-elsewhere i j (get_or ps k d) n away off) ∙ sym (sums n h) ∙ sym (get_or-set_other c i n (get_or c j (pos 0)) (pos 0) away)
          ] in
          past ∙ sym (pushed ∙ rw (same, t) (omega (arith, ints)))
    ]

-- the pick of i: coefficient i becomes the one at the pick, and that becomes the sign
pub placed_more : {first : ℕ} {bits picked : List ℕ} {c : List ℤ} {i : ℕ} (j : ℕ) (x : ℤ) → Placed first bits picked c i → i < 256 → j ≤ i → length picked < length bits → x ≡ sign_of (get_or bits (length picked) 0)
    → Placed first bits (picked ++ j ∷ []) (set (set c i (get_or c j (pos 0))) j x) (i + 1)
placed_more {first} {bits} {picked} {c} {i} j x k l m room s =
    let ps = places first picked in
    let push : places first (picked ++ j ∷ []) ≡ map (moved_once i j) ps ++ j ∷ [] = places-push first j i picked (sym k.next) in
    let long : length ps ≡ length picked = length-places picked first in
    let named : x ≡ sign_of (get_or bits (length ps) 0) = rw long s in
    record {
      next = omega (arith, k.next, length-append picked (j ∷ []));
      whole = length-set (set c i (get_or c j (pos 0))) j x ∙ length-set c i (get_or c j (pos 0)) ∙ k.whole;
      below = rw push (below-push ps i j m k.below);
      sums = λ n h. rw push (step_sums ps bits c i j n x k.whole l m k.below (omega (arith, long, room)) named k.sums h);
    }

-- the next byte is a pick, or is above the number that picks

picks-byte : (i byte : ℕ) → byte ≤ i → picks i (byte ∷ []) ≡ byte ∷ []
unfolding picks
picks-byte i byte l = let t : nat_le byte i ≡ true = search (rules, nat_tests) in rw t refl

picks-no_byte : (i byte : ℕ) → i < byte → picks i (byte ∷ []) ≡ []
unfolding picks
picks-no_byte i byte l = let t : nat_le byte i ≡ false = search (rules, nat_tests) in rw t refl

pub picked-more : (first n i byte : ℕ) (bytes : List ℕ) → n < length bytes → byte ≡ get_or bytes n 0 → i ≡ first + length (picks first (take n bytes)) → byte ≤ i
    → picks first (take (n + 1) bytes) ≡ picks first (take n bytes) ++ byte ∷ []
picked-more first n i byte bytes l e k m = grind (arith, ints, common_steps, take_more, picks-append, picks-byte)

pub picked-same : (first n i byte : ℕ) (bytes : List ℕ) → n < length bytes → byte ≡ get_or bytes n 0 → i ≡ first + length (picks first (take n bytes)) → i < byte
    → picks first (take (n + 1) bytes) ≡ picks first (take n bytes)
picked-same first n i byte bytes l e k m = grind (arith, ints, common_steps, take_more, picks-append, picks-no_byte, append-nil)

-- the whole challenge

-- further bytes don't matter where there are tau picks
pub picks-beyond : (tau i n m : ℕ) (bytes : List ℕ) → n ≤ m → tau ≤ length (picks i (take n bytes)) → take tau (picks i (take m bytes)) ≡ take tau (picks i (take n bytes))
picks-beyond tau i n m bytes l enough =
    let e : n + (m - n) ≡ m = omega arith in
    let cut : take m bytes ≡ take n bytes ++ take (m - n) (drop n bytes) = ap (λ n. take n bytes) (sym e) ∙ take-add n (m - n) bytes in
    ap (λ l. take tau (picks i l)) cut ∙ ap (take tau) (picks-append i (take n bytes) (take (m - n) (drop n bytes))) ∙ take-append-le tau (picks i (take n bytes)) _ enough

pub challenge-full : (tau n : ℕ) (front : List ℕ) (c : List ℤ) → tau ≤ 64 → n ≤ length front / 4
    → Placed (256 - tau) (bits 8 (take 8 front)) (picks (256 - tau) (take n (drop 8 front))) c 256 → challenge tau front ≡ Some record { 0 = c }
unfolding challenge challenge_picks
challenge-full tau n front c l m k =
    let bytes = drop 8 front in
    let picked = picks (256 - tau) (take n bytes) in
    let size : length picked ≡ tau = omega (arith, k.next, l) in
    let all : take tau (picks (256 - tau) (take (length front / 4) bytes)) ≡ picked =
    picks-beyond tau (256 - tau) n (length front / 4) bytes m (omega (arith, size)) ∙ take_all tau picked (omega (arith, size)) in
    let t : nat_lt (length picked) tau ≡ false = le-ltb (length picked) tau (omega (arith, size)) in
    let whole = polynomial_of-same (signed_sum (places (256 - tau) picked) (bits 8 (take 8 front))) record { 0 = c } k.whole k.sums in
    rw (all, t) (ap Some (sym whole))

pub challenge-few : (tau i : ℕ) (front : List ℕ) (c : List ℤ) → tau ≤ 64 → i < 256
    → Placed (256 - tau) (bits 8 (take 8 front)) (picks (256 - tau) (take (length front / 4) (drop 8 front))) c i → challenge tau front ≡ None
unfolding challenge challenge_picks
challenge-few tau i front c l m k = grind (arith, ints, common_steps, picked, length-take, lt-ltb)

-- the byte after the first eight and n more
pub byte_after : (front out rest : List ℕ) (n : ℕ) → out ≡ take 1 rest → rest ≡ drop (8 + n) front → get_or out 0 0 ≡ get_or (drop 8 front) n 0
byte_after front out rest n given at =
    ap (λ l. get_or l 0 0) (given ∙ ap (take 1) at) ∙ get_or-take 1 (drop (8 + n) front) 0 0 (omega arith) ∙ get_or-drop (8 + n) front 0 0
    ∙ ap (λ k. get_or front k 0) (add-zero (8 + n)) ∙ sym (get_or-drop 8 front n 0)

-- the next byte is the pick of i, with the sign of its bit
pub challenge-more : (first n i byte : ℕ) (front signs : List ℕ) (c : List ℤ) (x : ℤ) → 4096 ≤ length front → n < length front / 4 → signs ≡ take 8 front → 192 ≤ first
    → byte ≡ get_or (drop 8 front) n 0 → i < 256 → byte ≤ i → x ≡ sign_of (get_or (bits 8 signs) (i - first) 0)
    → Placed first (bits 8 (take 8 front)) (picks first (take n (drop 8 front))) c i
    → Placed first (bits 8 (take 8 front)) (picks first (take (n + 1) (drop 8 front))) (set (set c i (get_or c byte (pos 0))) byte x) (i + 1)
challenge-more first n i byte front signs c x size l first_eight most read h m s k =
    let picked = picks first (take n (drop 8 front)) in
    let room : n < length (drop 8 front) = simp length-drop (omega (arith, size, l)) in
    let more = picked-more first n i byte (drop 8 front) room read k.next m in
    let digits : length (bits 8 (take 8 front)) ≡ 64 = length-bits 8 (take 8 front) ∙ ap (λ n. 8 * n) (length-take-le 8 front (omega (arith, size))) in
    let at : i - first ≡ length picked = omega (arith, k.next) in
    let named : x ≡ sign_of (get_or (bits 8 (take 8 front)) (length picked) 0) = s ∙ ap (λ l. sign_of (get_or (bits 8 l) (i - first) 0)) first_eight ∙ ap (λ n. sign_of (get_or (bits 8 (take 8 front)) n 0)) at in
    rw more (placed_more byte x k h m (omega (arith, digits, k.next, h, most)) named)

-- the next byte is no pick
pub challenge-same : (first n i byte : ℕ) (front : List ℕ) (c : List ℤ) → 4096 ≤ length front → n < length front / 4 → byte ≡ get_or (drop 8 front) n 0 → i < byte
    → Placed first (bits 8 (take 8 front)) (picks first (take n (drop 8 front))) c i
    → Placed first (bits 8 (take 8 front)) (picks first (take (n + 1) (drop 8 front))) c i
challenge-same first n i byte front c size l read m k = grind (arith, ints, common_steps, length-drop, picked-same)
