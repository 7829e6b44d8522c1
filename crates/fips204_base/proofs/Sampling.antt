-- What a sampler keeps, piece by piece: coefficients from triples and from half bytes.
use Rattle.std.proofs.Common.{◌≡◌, ℕ, ℤ, zero, suc, ◌+◌, ◌<◌, ◌≤◌, min, List, [], ◌∷◌, ◌++◌, length, take, set, refl, ap, sym, ◌∙◌, arith, Some, None, true, false, nat_lt, append_assoc, append-nil, length-append, length-take, length-set, add-zero, map, inl, inr, ◌-◌, ◌/◌, ◌%◌, drop, get_or, ◌*◌, get_or-drop, get_or-take, pos, add-one, if◌then◌else◌}
use Rattle.std.specs.declared.option.Option.{Option}
use Rattle.std.specs.Option.{is_some, unwrap_or}
use mir.Val.{bool_byte}
use Rattle.std.specs.List.{filter_map, range_with_len, cons_option}
use Rattle.std.proofs.lemmas.List.{set-get_or, get_or_append_left, take_all, take_at, take-append-le, take_more_set, take_more, take-take, take-set}
use Rattle.std.proofs.lemmas.List.Elements.{filter_map-append}
use Rattle.std.proofs.lemmas.List.FromFn.{map-range_with_len_more}
use Rattle.std.proofs.lemmas.Bool.{cases_lt, le-ltb, lt-ltb}
use Rattle.fips204_base.specs.Sampling.{first_256, coefficient_from_half_byte, coefficient_from_three_bytes, small_polynomial, matrix_entry}
use Rattle.fips204_base.specs.SamplerSteps.{half_bytes, kept_half_bytes, triple, number, kept_triples}
use Rattle.std.specs.Prelude.{option_to_list, slice_index, pos}
use Rattle.std.proofs.lemmas.Grind.{flat_map-append, common_steps}
use Rattle.std.proofs.Math.Seq.{take-add}
use Rattle.std.proofs.lemmas.Int.{ints}

-- What a sampler keeps: the places written so far, and the first 256 coefficients of all that were given.

-- the first count of 256 values are the first 256 of those given
pub record Keeps (values : List ℤ) (count : ℕ) (given : List ℤ) : Type 0 where
  pub within : count ≤ 256
  pub whole : length values ≡ 256
  pub same : take count values ≡ take 256 given

-- below 256 all that was given is kept
pub keeps_all : {values : List ℤ} {count : ℕ} {given : List ℤ} → Keeps values count given → count < 256 → given ≡ take count values
keeps_all {values} {count} {given} k l =
    let long : min count 256 ≡ min 256 (length given) = ap (min count) (sym k.whole) ∙ sym (length-take count values) ∙ ap length k.same ∙ length-take 256 given in
    sym (k.same ∙ take_all 256 given (omega (arith, long)))

pub keeps_count : {values : List ℤ} {count : ℕ} {given : List ℤ} → Keeps values count given → count ≡ min 256 (length given)
keeps_count {values} {count} {given} k =
    let long : min count 256 ≡ min 256 (length given) = ap (min count) (sym k.whole) ∙ sym (length-take count values) ∙ ap length k.same ∙ length-take 256 given in
    omega (arith, long, k.within)

pub keeps_of : {values : List ℤ} {given : List ℤ} → length values ≡ 256 → values ≡ take 256 given → Keeps values 256 given
keeps_of {values} whole same = record { within = omega arith; whole = whole; same = take_all 256 values (omega (arith, whole)) ∙ same }

pub keeps_none : (values : List ℤ) → length values ≡ 256 → Keeps values 0 []
keeps_none values w = record { within = omega arith; whole = w; same = refl }

-- the values there are kept
pub keeps_there : (values : List ℤ) (count : ℕ) → length values ≡ 256 → count ≤ 256 → Keeps values count (take count values)
keeps_there values count w l = record { within = l; whole = w; same = sym (take_all 256 (take count values) (omega (arith, length-take count values))) }

-- one more is written and given
pub keeps_more : {values : List ℤ} {count : ℕ} {given : List ℤ} (x : ℤ) → Keeps values count given → count < 256 → Keeps (set values count x) (count + 1) (given ++ x ∷ [])
keeps_more {values} {count} {given} x k l =
    let all = keeps_all k l in
    let size : length given ≡ count = ap length all ∙ length-take count values ∙ omega (arith, k.whole) in
    record {
      within = omega arith;
      whole = length-set values count x ∙ k.whole;
      same = take_more_set values count x (omega (arith, k.whole)) ∙ ap (λ l. l ++ x ∷ []) (sym all)
          ∙ sym (take_all 256 (given ++ x ∷ []) (omega (arith, length-append given (x ∷ []), size)));
    }

-- a value is written where there may be none, and counted where there is one
pub keeps_counted : (values : List ℤ) (count : ℕ) (given : Option ℤ) → length values ≡ 256 → count < 256
    → take (count + bool_byte (is_some given)) (set values count (unwrap_or given (pos 0))) ≡ take 256 (take count values ++ option_to_list given)
keeps_counted values count None w l = ap (λ n. take n (set values count (pos 0))) (add-zero count) ∙ take-set values count (pos 0) ∙ (keeps_there values count w (omega (arith, l))).same ∙ ap (take 256) (sym (append-nil (take count values)))
keeps_counted values count (Some x) w l = (keeps_more x (keeps_there values count w (omega (arith, l))) l).same

-- what is given after 256 doesn't matter
pub keeps_full : {values : List ℤ} {given : List ℤ} (more : List ℤ) → Keeps values 256 given → Keeps values 256 (given ++ more)
keeps_full {values} {given} more k =
    let n = keeps_count k in
    record { within = k.within; whole = k.whole; same = k.same ∙ sym (take-append-le 256 given more (omega (arith, n))) }

-- after others are put behind those there, as many as have room
pub keeps_joined : {values new : List ℤ} {count n : ℕ} {given : List ℤ} (more : List ℤ) → Keeps values count given
    → length new ≡ 256 → n ≤ 256 → take n new ≡ take 256 (take count values ++ more) → Keeps new n (given ++ more)
keeps_joined {values} {new} {count} {n} {given} more k w m e = elim (cases_lt count 256) [
  | inl l ↦ record { within = m; whole = w; same = e ∙ ap (λ l. take 256 (l ++ more)) (sym (keeps_all k l)) }
  | inr g ↦
      let all : count ≡ 256 = omega (arith, g, k.within) in
      let long = keeps_count k in
      let first : take 256 (take count values ++ more) ≡ take count values = take_at (take count values) more 256 (length-take count values ∙ omega (arith, k.whole, all)) in
      record { within = m; whole = w; same = e ∙ first ∙ k.same ∙ sym (take-append-le 256 given more (omega (arith, long, all))) }
]

-- what is kept after another piece, where pieces are joined
pub keeps_next : (values new given more joined : List ℤ) (count n : ℕ) → length values ≡ 256 → length new ≡ 256 → count ≤ 256 → n ≤ 256 → joined ≡ given ++ more
    → take n new ≡ take 256 (take count values ++ more) → take count values ≡ take 256 given → take n new ≡ take 256 joined
keeps_next values new given more joined count n whole w l m e written before =
    let k : Keeps values count given = record { within = l; whole = whole; same = before } in
    (keeps_joined more k w m written).same ∙ ap (take 256) (sym e)

pub first_of_full : {values : List ℤ} {given : List ℤ} → Keeps values 256 given → first_256 given ≡ Some values
unfolding first_256
first_of_full {values} {given} k =
    let n = keeps_count k in
    let t : nat_lt (length given) 256 ≡ false = le-ltb (length given) 256 (omega (arith, n)) in
    let whole : take 256 given ≡ values = sym k.same ∙ take_all 256 values (omega (arith, k.whole)) in
    rw (t, whole) refl

pub first_of_few : {values : List ℤ} {count : ℕ} {given : List ℤ} → Keeps values count given → count < 256 → first_256 given ≡ None
unfolding first_256
first_of_few {values} {count} {given} k l =
    let n = keeps_count k in
    let t : nat_lt (length given) 256 ≡ true = lt-ltb (length given) 256 (omega (arith, n)) in
    rw t refl

-- what is given after 256 doesn't matter
pub first_256-beyond : (given later values : List ℤ) → first_256 given ≡ Some values → first_256 (given ++ later) ≡ Some values
unfolding first_256
first_256-beyond given later values e = elim (cases_lt (length given) 256) [
  | inl few ↦
      let t : nat_lt (length given) 256 ≡ true = lt-ltb (length given) 256 few in
      let none : None ≡ Some values = rw t at e in
      absurd cc
  | inr enough ↦
      let t : nat_lt (length given) 256 ≡ false = le-ltb (length given) 256 enough in
      let u : nat_lt (length (given ++ later)) 256 ≡ false = le-ltb (length (given ++ later)) 256 (omega (arith, length-append given later, enough)) in
      let first : take 256 (given ++ later) ≡ take 256 given = take-append-le 256 given later enough in
      let some : Some (take 256 given) ≡ Some values = rw t at e in
      rw (u, first) some
]

-- what numbers from 0 on give

map_same : (xs : List ℕ) → map (λ x. x) xs ≡ xs
map_same [] = refl
map_same (x ∷ xs) = ap (λ l. x ∷ l) (map_same xs)

range_more : (n : ℕ) → range_with_len 0 (n + 1) ≡ range_with_len 0 n ++ n ∷ []
range_more n = sym (map_same (range_with_len 0 (n + 1))) ∙ map-range_with_len_more (λ x. x) 0 n n (omega arith) ∙ ap (λ l. l ++ n ∷ []) (map_same (range_with_len 0 n))

pub given_next : {A : Type 0} (f : ℕ → Option A) (n : ℕ) → filter_map f (range_with_len 0 (n + 1)) ≡ filter_map f (range_with_len 0 n) ++ filter_map f (n ∷ [])
given_next f n = ap (filter_map f) (range_more n) ∙ filter_map-append f (range_with_len 0 n) (n ∷ [])

-- the next numbers give what another function does from 0 on
pub given_joined : {A : Type 0} (f g : ℕ → Option A) (n m : ℕ) → ((p : ℕ) → p < m → f (n + p) ≡ g p)
    → filter_map f (range_with_len 0 (n + m)) ≡ filter_map f (range_with_len 0 n) ++ filter_map g (range_with_len 0 m)
given_joined f g n zero same = ap (λ k. filter_map f (range_with_len 0 k)) (add-zero n) ∙ sym (append-nil (filter_map f (range_with_len 0 n)))
given_joined f g n (suc m) same =
    let before = given_joined f g n m (λ p l. same p (omega arith)) in
    let k : n + suc m ≡ n + m + 1 = omega arith in
    let j : suc m ≡ m + 1 = omega arith in
    let one : filter_map f ((n + m) ∷ []) ≡ filter_map g (m ∷ []) = rw (same m (omega arith)) refl in
    ap (λ k. filter_map f (range_with_len 0 k)) k ∙ given_next f (n + m) ∙ ap (λ l. l ++ filter_map f ((n + m) ∷ [])) before
    ∙ append_assoc (filter_map f (range_with_len 0 n)) (filter_map g (range_with_len 0 m)) (filter_map f ((n + m) ∷ []))
    ∙ ap (λ l. filter_map f (range_with_len 0 n) ++ (filter_map g (range_with_len 0 m) ++ l)) one
    ∙ ap (λ l. filter_map f (range_with_len 0 n) ++ l) (sym (given_next g m))
    ∙ ap (λ k. filter_map f (range_with_len 0 n) ++ filter_map g (range_with_len 0 k)) (sym j)

-- The coefficients that the half bytes of an output give, byte by byte and piece by piece.

pub kept_half_bytes-zero : (eta : ℕ) (front : List ℕ) → kept_half_bytes eta front 0 ≡ []
unfolding kept_half_bytes
kept_half_bytes-zero eta front = refl

both : (x y : Option ℤ) → cons_option x (cons_option y []) ≡ option_to_list x ++ option_to_list y
both None None = refl
both None (Some y) = refl
both (Some x) None = refl
both (Some x) (Some y) = refl

two_kept : (f : ℕ → Option ℤ) (a b : ℕ) → filter_map f (a ∷ b ∷ []) ≡ option_to_list (f a) ++ option_to_list (f b)
two_kept f a b = both (f a) (f b)

given-append : (eta : ℕ) (xs ys : List ℕ) → filter_map (coefficient_from_half_byte eta) (half_bytes (xs ++ ys)) ≡ filter_map (coefficient_from_half_byte eta) (half_bytes xs) ++ filter_map (coefficient_from_half_byte eta) (half_bytes ys)
given-append eta xs ys = grind (arith, ints, common_steps, flat_map-append, filter_map-append)

-- one more byte
pub kept_half_bytes-more : (eta : ℕ) (front : List ℕ) (n byte : ℕ) → n < length front → byte ≡ get_or front n 0
    → kept_half_bytes eta front (n + 1) ≡ (kept_half_bytes eta front n ++ option_to_list (coefficient_from_half_byte eta (byte % 16))) ++ option_to_list (coefficient_from_half_byte eta (byte / 16))
unfolding kept_half_bytes
kept_half_bytes-more eta front n byte l e = grind (arith, ints, common_steps, take_more, given-append, two_kept, append_assoc)

-- another piece
pub kept_half_bytes-joined : (eta : ℕ) (front : List ℕ) (n m : ℕ) → kept_half_bytes eta front (n + m) ≡ kept_half_bytes eta front n ++ kept_half_bytes eta (take m (drop n front)) m
unfolding kept_half_bytes
kept_half_bytes-joined eta front n m = grind (arith, ints, common_steps, take-add, given-append, take-take)

-- where each draw is a byte
pub kept_half_bytes-drawn : (eta : ℕ) (front : List ℕ) (n m : ℕ) → kept_half_bytes eta front (n + m) ≡ kept_half_bytes eta front n ++ kept_half_bytes eta (take (1 * m) (drop (1 * n) front)) m
kept_half_bytes-drawn eta front n m =
    let same : (k : ℕ) → k ≡ 1 * k = λ k. omega arith in
    kept_half_bytes-joined eta front n m ∙ ap (λ k. kept_half_bytes eta front n ++ kept_half_bytes eta (take k (drop n front)) m) (same m)
    ∙ ap (λ k. kept_half_bytes eta front n ++ kept_half_bytes eta (take (1 * m) (drop k front)) m) (same n)

-- what more bytes give comes behind
pub kept_half_bytes-beyond : (eta : ℕ) (front : List ℕ) (n m : ℕ) → n ≤ m → (later : List ℤ) × (kept_half_bytes eta front m ≡ kept_half_bytes eta front n ++ later)
kept_half_bytes-beyond eta front n m l =
    let e : n + (m - n) ≡ m = omega arith in
    (kept_half_bytes eta (take (m - n) (drop n front)) (m - n), ap (kept_half_bytes eta front) (sym e) ∙ kept_half_bytes-joined eta front n (m - n))

pub polynomial-full : (eta : ℕ) (front : List ℕ) (n : ℕ) (values : List ℤ) → n ≤ length front / 4 → Keeps values 256 (kept_half_bytes eta front n) → small_polynomial eta front ≡ Some record { 0 = values }
unfolding small_polynomial kept_half_bytes
polynomial-full eta front n values l k =
    let whole = kept_half_bytes-beyond eta front n (length front / 4) l in
    let first : first_256 (kept_half_bytes eta front (length front / 4)) ≡ Some values = ap first_256 whole.1 ∙ first_256-beyond _ whole.0 values (first_of_full k) in
    rw first refl

pub polynomial-few : (eta : ℕ) (front : List ℕ) (values : List ℤ) (count : ℕ) → count < 256 → Keeps values count (kept_half_bytes eta front (length front / 4)) → small_polynomial eta front ≡ None
unfolding small_polynomial kept_half_bytes
polynomial-few eta front values count l k = rw (first_of_few k l) refl

-- The coefficients that the triples of an output give, piece by piece.

pub kept_triples-zero : (front : List ℕ) → kept_triples front 0 ≡ []
unfolding kept_triples
kept_triples-zero front = refl

one_kept : (x : Option ℤ) → cons_option x [] ≡ option_to_list x
one_kept None = refl
one_kept (Some x) = refl

-- one more triple
pub kept_triples-more : (front : List ℕ) (p : ℕ) → kept_triples front (p + 1) ≡ kept_triples front p ++ option_to_list (triple front p)
unfolding kept_triples
kept_triples-more front p = given_next (triple front) p ∙ ap (λ l. kept_triples front p ++ l) (one_kept (triple front p))

pub triple-at : (front : List ℕ) (p : ℕ) → triple front p ≡ coefficient_from_three_bytes (slice_index front (3 * p)) (slice_index front (3 * p + 1)) (slice_index front (3 * p + 2))
unfolding triple
triple-at front p = refl

-- triple p of a piece that begins at triple n
triple-piece : (front : List ℕ) (n m p : ℕ) → p < m → triple front (n + p) ≡ triple (take (3 * m) (drop (3 * n) front)) p
unfolding triple
triple-piece front n m p h = grind (arith, ints, common_steps, get_or-take, get_or-drop)

pub kept_triples-joined : (front : List ℕ) (n m : ℕ) → kept_triples front (n + m) ≡ kept_triples front n ++ kept_triples (take (3 * m) (drop (3 * n) front)) m
unfolding kept_triples
kept_triples-joined front n m = given_joined (triple front) (triple (take (3 * m) (drop (3 * n) front))) n m (triple-piece front n m)

-- what more triples give comes behind
pub kept_triples-beyond : (front : List ℕ) (n m : ℕ) → n ≤ m → (later : List ℤ) × (kept_triples front m ≡ kept_triples front n ++ later)
kept_triples-beyond front n m l =
    let e : n + (m - n) ≡ m = omega arith in
    (kept_triples (take (3 * (m - n)) (drop (3 * n) front)) (m - n), ap (kept_triples front) (sym e) ∙ kept_triples-joined front n (m - n))

-- the number of a triple of a piece that begins at triple n
pub number-piece : (front : List ℕ) (s n k p : ℕ) → s ≡ 3 * n → 3 * p + 3 ≤ k → number front (n + p) ≡ number (take k (drop s front)) p
number-piece front s n k p e h = grind (arith, ints, common_steps, get_or-take, get_or-drop)

-- the number of a triple of a piece that has others behind it
pub number-front : (piece later : List ℕ) (p : ℕ) → 3 * p + 3 ≤ length piece → number (piece ++ later) p ≡ number piece p
number-front piece later p h = grind (arith, ints, common_steps, get_or_append_left)

-- one more triple, whose number is below q
pub kept_triples-kept : (front : List ℕ) (p : ℕ) → number front p < 8380417 → kept_triples front (p + 1) ≡ kept_triples front p ++ pos (number front p) ∷ []
kept_triples-kept front p h =
    let some : triple front p ≡ Some (pos (number front p)) = triple-at front p ∙ ap (λ b. if b then Some (pos (number front p)) else None) (lt-ltb (number front p) 8380417 h) in
    kept_triples-more front p ∙ ap (λ o. kept_triples front p ++ option_to_list o) some

-- and one whose number is not
pub kept_triples-left : (front : List ℕ) (p : ℕ) → 8380417 ≤ number front p → kept_triples front (p + 1) ≡ kept_triples front p
kept_triples-left front p h =
    let none : triple front p ≡ None = triple-at front p ∙ ap (λ b. if b then Some (pos (number front p)) else None) (le-ltb (number front p) 8380417 h) in
    kept_triples-more front p ∙ ap (λ o. kept_triples front p ++ option_to_list o) none ∙ append-nil (kept_triples front p)

-- each of the first n numbers is below q and is written: all are kept
pub kept_numbers : (front : List ℕ) (values : List ℤ) (n : ℕ) → length values ≡ 256 → n ≤ 256
    → ((p : ℕ) → p < n → (number front p < 8380417) × (get_or values p (pos 0) ≡ pos (number front p))) → Keeps values n (kept_triples front n)
kept_numbers front values zero w l all = rw (kept_triples-zero front) (keeps_none values w)
kept_numbers front values (suc n) w l all =
    let before = kept_numbers front values n w (omega (arith, l)) (λ p h. all p (omega (arith, h))) in
    let this = all n (omega arith) in
    let x = get_or values n (pos 0) in
    let more : kept_triples front (n + 1) ≡ kept_triples front n ++ x ∷ [] = kept_triples-kept front n this.0 ∙ ap (λ y. kept_triples front n ++ y ∷ []) (sym this.1) in
    let next : Keeps (set values n x) (n + 1) (kept_triples front n ++ x ∷ []) = keeps_more x before (omega (arith, l)) in
    let same : set values n x ≡ values = set-get_or values n (pos 0) in
    let there : Keeps values (n + 1) (kept_triples front n ++ x ∷ []) = rw same at next in
    let whole : Keeps values (n + 1) (kept_triples front (n + 1)) = rw more there in
    rw add-one at whole

pub entry-full : (front : List ℕ) (n : ℕ) (values : List ℤ) → n ≤ length front / 4 → Keeps values 256 (kept_triples front n) → matrix_entry front ≡ Some record { 0 = values }
unfolding matrix_entry kept_triples triple
entry-full front n values l k =
    let whole = kept_triples-beyond front n (length front / 4) l in
    let first : first_256 (kept_triples front (length front / 4)) ≡ Some values = ap first_256 whole.1 ∙ first_256-beyond _ whole.0 values (first_of_full k) in
    rw first refl

pub entry-few : (front : List ℕ) (values : List ℤ) (count : ℕ) → count < 256 → Keeps values count (kept_triples front (length front / 4)) → matrix_entry front ≡ None
unfolding matrix_entry kept_triples triple
entry-few front values count l k = rw (first_of_few k l) refl
