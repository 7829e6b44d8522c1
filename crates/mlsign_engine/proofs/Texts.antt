-- The lines of a text, and the text that they have.
use Rattle.std.proofs.Common.{◌≡◌, ℕ, zero, suc, ◌+◌, ◌*◌, ◌/◌, ◌%◌, ◌<◌, ◌≤◌, Bool, true, false, cond, eqb, ltb, Some, None, not, List, [], ◌∷◌, ◌++◌, length, take, drop, get_or, min, inl, inr, refl, sym, ap, ◌∙◌, append_assoc, arith}
use Rattle.std.specs.List.{AllPass, position, position_or_len, list_all, filter}
use Rattle.std.specs.Str.{bytes_eq}
use Rattle.std.proofs.lemmas.List.Elements.{filter-append, All-head, All-tail, All-nil, All-append, All-take, All-drop, All-replicate, All-from_recursion}
use Rattle.base64.specs.Rfc4648.{encode_symbols, encode_one, encode_two, encode_group, padding_len}
use Rattle.base64.specs.GeneralPurpose.{encode_of}
use Rattle.base64.specs.Engines.{standard}
use Rattle.std.proofs.lemmas.List.Sums.{AllPass-from_list_all, prefix_len-le-length}
use Rattle.std.proofs.lemmas.Bool.{cases_lt, eq-eqb, eqb-true}
use Rattle.std.proofs.lemmas.Bool.Decides.{nat_tests}
use Rattle.std.proofs.lemmas.List.{get_or_past, take_at, take_min, drop_min, take-append-drop, length-drop, append-nil, nil_from_length}
use Rattle.std.proofs.lemmas.Slice.Eq.{bytes_eq-Decides}
use Rattle.mlsign_engine.specs.Pem.{lines, wrapped}

-- an empty text has no line
pub wrapped_none : (ending text : List ℕ) → length text ≡ 0 → wrapped ending text ≡ []
unfolding wrapped lines
wrapped_none ending text none = rw none refl

-- a text begins with its first line
pub wrapped_some : (ending text : List ℕ) → 0 < length text → wrapped ending text ≡ take 64 text ++ (ending ++ wrapped ending (drop 64 text))
unfolding wrapped lines
wrapped_some ending text some =
    let count : (length text + 63) / 64 ≡ suc ((length (drop 64 text) + 63) / 64) = omega (arith, length-drop 64 text) in
    rw count refl

-- its first line, of all the characters that there are, or of 64
pub first_line : (ending text line after : List ℕ) (k : ℕ) → eqb (length text) 0 ≡ false → k ≡ min 64 (length text) → line ≡ take k text → after ≡ drop k text
    → wrapped ending text ≡ line ++ (ending ++ wrapped ending after)
first_line ending text line after k not_empty is first left =
    let some : 0 < length text = grind (arith, nat_tests) in
    let front : line ≡ take 64 text = rw (first, is, take_min 64 text) refl in
    let back : after ≡ drop 64 text = rw (left, is, drop_min 64 text) refl in
    rw (front, back) (wrapped_some ending text some)

-- what is written and what is still to be written, after one more line
pub line_written : (out ending text after total written : List ℕ) (k : ℕ) → eqb (length text) 0 ≡ false → k ≡ min 64 (length text) → after ≡ drop k text
    → written ≡ (out ++ take k text) ++ ending → out ++ wrapped ending text ≡ total → written ++ wrapped ending after ≡ total
line_written out ending text after total written k not_empty is left added so_far =
    let one : out ++ wrapped ending text ≡ out ++ (take k text ++ (ending ++ wrapped ending after)) =
    ap (λ (z : List ℕ). out ++ z) (first_line ending text (take k text) after k not_empty is refl left) in
    rw (added, append_assoc (out ++ take k text) ending (wrapped ending after), append_assoc out (take k text) (ending ++ wrapped ending after))
    (sym one ∙ so_far)

pub all_written : (out ending text total : List ℕ) → eqb (length text) 0 ≡ true → out ++ wrapped ending text ≡ total → out ≡ total
all_written out ending text total empty so_far =
    sym (append-nil out) ∙ sym (ap (λ (z : List ℕ). out ++ z) (wrapped_none ending text (eqb-true _ _ empty))) ∙ so_far

-- ---- two texts compared

same_behind : (front one other : List ℕ) → bytes_eq (front ++ one) (front ++ other) ≡ bytes_eq one other
same_behind [] one other = refl
same_behind (x ∷ front) one other = rw (eq-eqb x x refl) (same_behind front one other)

-- behind what both begin with
pub front_stripped : (front one text : List ℕ) → bytes_eq (take (length front) text) front ≡ true → bytes_eq (front ++ one) text ≡ bytes_eq one (drop (length front) text)
front_stripped front one text begins =
    let is : text ≡ front ++ drop (length front) text =
    sym (take-append-drop (length front) text) ∙ ap (λ (z : List ℕ). z ++ drop (length front) text) ((bytes_eq-Decides (take (length front) text) front).0 begins) in
    ap (bytes_eq (front ++ one)) is ∙ same_behind front one (drop (length front) text)

-- where one does not begin as the other
pub other_front : (front one text : List ℕ) → bytes_eq (take (length front) text) front ≡ false → bytes_eq (front ++ one) text ≡ false
other_front front one text differs = decided (bytes_eq (front ++ one) text) (λ yes.
    let begins : take (length front) text ≡ front = ap (take (length front)) (sym ((bytes_eq-Decides (front ++ one) text).0 yes)) ∙ take_at front one (length front) refl in
    let no : bytes_eq (take (length front) text) front ≡ true = (bytes_eq-Decides (take (length front) text) front).1 begins in cc)
  where
    decided : (b : Bool) → ¬ (b ≡ true) → b ≡ false
    decided true never = absurd (never refl)
    decided false never = refl

-- nothing is the same as an empty text
pub none_left : (text : List ℕ) → bytes_eq [] text ≡ eqb (length text) 0
none_left [] = refl
none_left (x ∷ text) = grind (arith, nat_tests)

-- ---- places

-- a place that is not found is the end
pub past_all : (p : ℕ → Bool) (xs : List ℕ) → position p xs ≡ None → position_or_len p xs ≡ length xs
past_all p xs none =
    let within : position_or_len p xs ≤ length xs = prefix_len-le-length (λ x. not (p x)) xs in
    elim (cases_lt (position_or_len p xs) (length xs)) [
      | inl before ↦
          let test : ltb (position_or_len p xs) (length xs) ≡ true = grind (arith, nat_tests) in
          absurd (cc (sym none ∙ ap (λ (b : Bool). cond b (Some (position_or_len p xs)) None) test))
      | inr past ↦ omega (arith, within, past)
    ]

-- ---- tests of characters

abbrev pub passes : (ℕ → Bool) → ℕ → Type 0
passes p x = p x ≡ true

-- a test that all elements pass, passed by what a place has
passed_at : (p : ℕ → Bool) (xs : List ℕ) (k : ℕ) → AllPass p xs → p 0 ≡ true → p (get_or xs k 0) ≡ true
passed_at p xs k all none = elim (cases_lt k (length xs)) [ inl before ↦ all k 0 before | inr past ↦ rw (get_or_past xs k 0 past) none ]

-- a filter that drops nothing
kept_all : (p : ℕ → Bool) (xs : List ℕ) → AllPass p xs → filter p xs ≡ xs
kept_all p [] all = refl
kept_all p (x ∷ xs) all = rw (All-head (passes p) x xs all) (ap (λ (z : List ℕ). x ∷ z) (kept_all p xs (All-tail (passes p) x xs all)))

-- ---- what the lines of a text have

-- the characters of lines, without their ends, are those of the text
lines_kept : (p : ℕ → Bool) (ending : List ℕ) (count : ℕ) (text : List ℕ) → filter p ending ≡ [] → AllPass p text → length text ≤ 64 * count
    → filter p (lines ending count text) ≡ text
unfolding lines
lines_kept p ending zero text dropped all fits = sym (nil_from_length text (omega arith))
lines_kept p ending (suc count) text dropped all fits =
    let later : filter p (lines ending count (drop 64 text)) ≡ drop 64 text =
    lines_kept p ending count (drop 64 text) dropped (All-drop (passes p) 64 text all) (omega (arith, length-drop 64 text)) in
    filter-append p (take 64 text) (ending ++ lines ending count (drop 64 text))
    ∙ ap (λ (z : List ℕ). z ++ filter p (ending ++ lines ending count (drop 64 text))) (kept_all p (take 64 text) (All-take (passes p) 64 text all))
    ∙ ap (λ (z : List ℕ). take 64 text ++ z) (filter-append p ending (lines ending count (drop 64 text))
    ∙ ap (λ (z : List ℕ). z ++ filter p (lines ending count (drop 64 text))) dropped ∙ later)
    ∙ take-append-drop 64 text

pub wrapped_kept : (p : ℕ → Bool) (ending text : List ℕ) → filter p ending ≡ [] → AllPass p text → filter p (wrapped ending text) ≡ text
unfolding wrapped
wrapped_kept p ending text dropped all = lines_kept p ending ((length text + 63) / 64) text dropped all (omega arith)

lines_pass : (p : ℕ → Bool) (ending : List ℕ) (count : ℕ) (text : List ℕ) → AllPass p ending → AllPass p text → AllPass p (lines ending count text)
unfolding lines
lines_pass p ending zero text ends all = All-nil (passes p)
lines_pass p ending (suc count) text ends all =
    All-append (passes p) (take 64 text) _ (All-take (passes p) 64 text all) (All-append (passes p) ending _ ends (lines_pass p ending count (drop 64 text) ends (All-drop (passes p) 64 text all)))

pub wrapped_pass : (p : ℕ → Bool) (ending text : List ℕ) → AllPass p ending → AllPass p text → AllPass p (wrapped ending text)
unfolding wrapped
wrapped_pass p ending text ends all = lines_pass p ending ((length text + 63) / 64) text ends all

-- ---- what base64 has

symbols_pass : (p : ℕ → Bool) (table m : List ℕ) → AllPass p table → p 0 ≡ true → AllPass p (encode_symbols table m)
unfolding encode_symbols
symbols_pass p table [] all none = All-nil (passes p)
symbols_pass p table (a ∷ []) all none =
    let at = λ (k : ℕ). passed_at p table k all none in All-from_recursion (passes p) (encode_one table a) (at (a / 4), (at (a % 4 * 16), tt))
symbols_pass p table (a ∷ b ∷ []) all none =
    let at = λ (k : ℕ). passed_at p table k all none in All-from_recursion (passes p) (encode_two table a b) (at (a / 4), (at (a % 4 * 16 + b / 16), (at (b % 16 * 4), tt)))
symbols_pass p table (a ∷ b ∷ c ∷ rest) all none =
    let at = λ (k : ℕ). passed_at p table k all none in
    All-append (passes p) (encode_group table a b c) _
    (All-from_recursion (passes p) (encode_group table a b c) (at (a / 4), (at (a % 4 * 16 + b / 16), (at (b % 16 * 4 + c / 64), (at (c % 64), tt))))) (symbols_pass p table rest all none)

pub encoded_passes : (p : ℕ → Bool) (m : List ℕ) → list_all p standard.encode_table ≡ true → p 0 ≡ true → p 61 ≡ true → AllPass p (encode_of standard m)
encoded_passes p m all none pad =
    All-append (passes p) (encode_symbols standard.encode_table m) _ (symbols_pass p standard.encode_table m (AllPass-from_list_all p standard.encode_table all) none)
    (All-replicate (passes p) (padding_len (length m)) 61 pad)

-- the first place that passes, where what passes follows what does not
pub first_place : (p : ℕ → Bool) (xs ys : List ℕ) (y : ℕ) → AllPass (λ x. not (p x)) xs → p y ≡ true → position_or_len p (xs ++ y ∷ ys) ≡ length xs
first_place p [] ys y none some = rw some refl
first_place p (x ∷ xs) ys y none some =
    ap (λ (b : Bool). cond b (1 + position_or_len p (xs ++ y ∷ ys)) 0) (All-head (λ x. not (p x) ≡ true) x xs none)
    ∙ ap (λ (n : ℕ). 1 + n) (first_place p xs ys y (All-tail (λ x. not (p x) ≡ true) x xs none) some) ∙ omega arith
