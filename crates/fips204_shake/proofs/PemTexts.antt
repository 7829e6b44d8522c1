-- A text that is read spells what is read, and the bytes that a text spells are read.
use Rattle.std.proofs.Common.{◌≡◌, ℕ, zero, suc, ◌+◌, ◌-◌, ◌*◌, ◌/◌, ◌%◌, ◌<◌, ◌≤◌, Bool, true, false, cond, eqb, not, min, inl, inr, List, [], ◌∷◌, ◌++◌, length, take, drop, Ok, Err, refl, sym, ap, subst, ◌∙◌, append_assoc, arith}
use Rattle.std.specs.Str.{bytes_eq}
use Rattle.std.specs.List.{position_or_len, filter, list_all, AllPass}
use Rattle.std.proofs.lemmas.Bool.{eqb-true, cases_lt}
use Rattle.std.proofs.lemmas.Bool.Decides.{nat_tests}
use Rattle.std.proofs.lemmas.List.{take-append-drop, take_at, drop_at, take_all, drop_all, append-nil, nil_from_length, length-append, length-take, length-drop}
use Rattle.std.proofs.lemmas.List.Elements.{filter-append, All-head, All-tail, All-take, All-drop}
use Rattle.std.proofs.lemmas.List.Sums.{AllPass-from_list_all}
use Rattle.std.proofs.lemmas.Slice.Eq.{bytes_eq-Decides}
use Rattle.fips204_shake.specs.Base64.{alphabet, symbol, base64, base64_length, IsBytes}
use Rattle.fips204_shake.specs.Base64Reading.{is_black, symbols_at}
use Rattle.fips204_shake.specs.Pem.{begin_line, end_line, begins, beginning, NoneBegins, Spells, lines, wrapped, lines_length, pem}
use Rattle.fips204_shake.specs.PemReading.{from_first, from_beginning, label_fault, opened_at, is_dash, closed_at, pem_at}
use Rattle.fips204_shake.specs.declared.pem.Kind.{Kind}
use Rattle.fips204_shake.specs.declared.pem.Kind.TheVariants.{Public, Private}
use Rattle.fips204_shake.specs.declared.pem.fault.PemFault.{PemFault}
use Rattle.fips204_shake.specs.declared.pem.fault.PemFault.TheVariants.{NotPem, CutShort, Damaged}
use Rattle.fips204_base.proofs.Roots.{all_below}
use Rattle.fips204_shake.proofs.Elements.{bind_ok, chosen, ok_is, same_bytes}
use Rattle.fips204_shake.proofs.Base64Texts.{symbols_found, symbols_again, all_pass, both_true, bytes_none, bytes_more, how_long, of_both}
use Rattle.fips204_shake.proofs.Base64Groups.{of_none}

-- ---- where a text begins

record FirstAt (text begun : List ℕ) : Type 0 where
  before : List ℕ
  is : text ≡ before ++ begun
  none : NoneBegins (length before) text

none_more : (byte : ℕ) (rest : List ℕ) (count : ℕ) → begins beginning (byte ∷ rest) ≡ false → NoneBegins count rest → NoneBegins (suc count) (byte ∷ rest)
none_more byte rest count is later zero few = is
none_more byte rest count is later (suc k) few = later k (omega arith)

first_one : (byte : ℕ) (rest : List ℕ) (b : Bool) → begins beginning (byte ∷ rest) ≡ b → FirstAt rest (from_first beginning rest)
    → FirstAt (byte ∷ rest) (cond b (byte ∷ rest) (from_first beginning rest))
first_one byte rest true is later = record { before = []; is = refl; none = λ k few. absurd (omega arith) }
first_one byte rest false is later =
    record {
      before = byte ∷ later.before;
      is = ap (λ (z : List ℕ). byte ∷ z) later.is;
      none = none_more byte rest (length later.before) is later.none;
    }

first_found : (text : List ℕ) → FirstAt text (from_first beginning text)
first_found [] = record { before = []; is = refl; none = λ k few. absurd (omega arith) }
first_found (byte ∷ rest) = first_one byte rest (begins beginning (byte ∷ rest)) refl (first_found rest)

first_again : (before begun : List ℕ) → NoneBegins (length before) (before ++ begun) → begins beginning begun ≡ true → from_first beginning (before ++ begun) ≡ begun
first_again [] [] none is = refl
first_again [] (x ∷ xs) none is = ap (λ (b : Bool). cond b (x ∷ xs) (from_first beginning xs)) is
first_again (x ∷ before) begun none is =
    ap (λ (b : Bool). cond b (x ∷ (before ++ begun)) (from_first beginning (before ++ begun))) (none 0 (omega arith))
    ∙ first_again before begun (λ k few. none (suc k) (omega arith)) is

none_again : (text : List ℕ) → NoneBegins (length text) text → from_first beginning text ≡ []
none_again [] none = refl
none_again (x ∷ rest) none =
    ap (λ (b : Bool). cond b (x ∷ rest) (from_first beginning rest)) (none 0 (omega arith)) ∙ none_again rest (λ k few. none (suc k) (omega arith))

none_found : (text : List ℕ) → from_first beginning text ≡ [] → NoneBegins (length text) text
none_found text e =
    let first = first_found text in
    let same : first.before ≡ text = sym (first.is ∙ ap (λ (z : List ℕ). first.before ++ z) e ∙ append-nil first.before) in
    subst (λ (z : List ℕ). NoneBegins (length z) text) same first.none

-- ---- the beginnings of texts

same_again : (a : List ℕ) → bytes_eq a a ≡ true
same_again a = (bytes_eq-Decides a a).1 refl

begun : (front text : List ℕ) → begins front text ≡ true → text ≡ front ++ drop (length front) text
begun front text e =
    sym (take-append-drop (length front) text) ∙ ap (λ (z : List ℕ). z ++ drop (length front) text) (sym (same_bytes front (take (length front) text) e))

begun_again : (front rest : List ℕ) → begins front (front ++ rest) ≡ true
begun_again front rest = ap (λ (z : List ℕ). bytes_eq front z) (take_at front rest (length front) refl) ∙ same_again front

line_begins : (kind : Kind) (rest : List ℕ) → begins beginning (begin_line kind ++ rest) ≡ true
line_begins Public rest = refl
line_begins Private rest = refl

line_first : (kind : Kind) (rest : List ℕ) → from_first beginning (begin_line kind ++ rest) ≡ begin_line kind ++ rest
line_first Public rest = refl
line_first Private rest = refl

not_empty : (kind : Kind) (rest : List ℕ) → eqb (length (begin_line kind ++ rest)) 0 ≡ false
not_empty Public rest = grind (arith, nat_tests)
not_empty Private rest = grind (arith, nat_tests)

-- a choice of faults
refused : {A : Type 0} (a b : Bool) (x y z : PemFault) (w : A) → cond a (Err x) (cond b (Err y) (Err z)) ≡ Ok w → ⊥
refused true b x y z w e = cc
refused false true x y z w e = cc
refused false false x y z w e = cc

one_refused : {A : Type 0} (a : Bool) (x y : PemFault) (w : A) → cond a (Err x) (Err y) ≡ Ok w → ⊥
one_refused true x y w e = cc
one_refused false x y w e = cc

opened_found : (kind : Kind) (text rest : List ℕ) → opened_at kind text ≡ Ok rest → text ≡ begin_line kind ++ rest
unfolding opened_at
opened_found kind text rest e =
    elim (chosen (begins (begin_line kind) text) _ _ _ e) [
      | inl is ↦ begun (begin_line kind) text is.0 ∙ ap (λ (z : List ℕ). begin_line kind ++ z) (ok_is _ rest is.1)
      | inr other ↦ absurd (refused (begins text (begin_line kind)) (begins beginning text) CutShort (label_fault kind text) NotPem rest other.1)
    ]

opened_again : (kind : Kind) (rest : List ℕ) → opened_at kind (begin_line kind ++ rest) ≡ Ok rest
unfolding opened_at
opened_again kind rest = rw (begun_again (begin_line kind) rest, drop_at (begin_line kind) rest (length (begin_line kind)) refl) refl

begun_found : (kind : Kind) (text rest : List ℕ) → from_beginning text ≡ begin_line kind ++ rest → from_first beginning text ≡ begin_line kind ++ rest
begun_found kind text rest e =
    elim (chosen (eqb (length (from_first beginning text)) 0) _ _ _ e) [
      | inl whole ↦ ap (from_first beginning) whole.1 ∙ line_first kind rest
      | inr part ↦ part.1
    ]

begun_so : (kind : Kind) (text rest : List ℕ) → from_first beginning text ≡ begin_line kind ++ rest → from_beginning text ≡ begin_line kind ++ rest
begun_so kind text rest e = ap (λ (z : List ℕ). cond (eqb (length z) 0) text z) e ∙ ap (λ (b : Bool). cond b text (begin_line kind ++ rest)) (not_empty kind rest)

-- ---- the last line

record ClosedFound (last text body : List ℕ) : Type 0 where
  after : List ℕ
  is : text ≡ body ++ (last ++ after)
  alone : NoneBegins (length after) after

closed_found : (last text body : List ℕ) → closed_at last text ≡ Ok body → ClosedFound last text body
unfolding closed_at
closed_found last text body e =
    let dash : ℕ = position_or_len is_dash text in
    let after : List ℕ = drop (length last) (drop dash text) in
    elim (chosen (begins last (drop dash text)) _ _ _ e) [
      | inl is ↦
          elim (chosen (eqb (length (from_first beginning after)) 0) _ _ _ is.1) [
            | inl none ↦
                record {
                  after = after;
                  is = sym (take-append-drop dash text) ∙ ap (λ (z : List ℕ). take dash text ++ z) (begun last (drop dash text) is.0)
                      ∙ ap (λ (z : List ℕ). z ++ (last ++ after)) (ok_is _ body none.1);
                  alone = none_found after (nil_from_length _ (eqb-true _ _ none.0));
                }
            | inr behind ↦ absurd (cc behind.1)
          ]
      | inr other ↦ absurd (one_refused (begins (drop dash text) last) CutShort Damaged body other.1)
    ]

-- the first place that passes, where what passes follows what does not
first_place : (p : ℕ → Bool) (xs ys : List ℕ) (y : ℕ) → list_all (λ x. not (p x)) xs ≡ true → p y ≡ true → position_or_len p (xs ++ y ∷ ys) ≡ length xs
first_place p [] ys y none some = rw some refl
first_place p (x ∷ xs) ys y none some =
    let both = both_true (not (p x)) (list_all (λ x. not (p x)) xs) none in
    ap (λ (b : Bool). cond b (1 + position_or_len p (xs ++ y ∷ ys)) 0) both.0
    ∙ ap (λ (n : ℕ). 1 + n) (first_place p xs ys y both.1 some) ∙ omega arith

dash_last : (kind : Kind) (after : List ℕ) → end_line kind ++ after ≡ 45 ∷ (drop 1 (end_line kind) ++ after)
dash_last Public after = refl
dash_last Private after = refl

closed_again : (kind : Kind) (body after : List ℕ) → list_all (λ x. not (is_dash x)) body ≡ true → NoneBegins (length after) after
    → closed_at (end_line kind) (body ++ (end_line kind ++ after)) ≡ Ok body
unfolding closed_at
closed_again kind body after none alone =
    let last : List ℕ = end_line kind ++ after in
    let at : position_or_len is_dash (body ++ last) ≡ length body =
    ap (λ (z : List ℕ). position_or_len is_dash (body ++ z)) (dash_last kind after) ∙ first_place is_dash body (drop 1 (end_line kind) ++ after) 45 none refl in
    let front : take (length body) (body ++ last) ≡ body = take_at body last (length body) refl in
    let back : drop (length body) (body ++ last) ≡ last = drop_at body last (length body) refl in
    rw (
      at,
      front,
      back,
      begun_again (end_line kind) after,
      drop_at (end_line kind) after (length (end_line kind)) refl,
      none_again after alone,
    ) refl

-- ---- what stands between has no dash

black_or_no_dash : (x : ℕ) (b : Bool) → eqb x 45 ≡ b → is_black x ≡ false → not b ≡ true
black_or_no_dash x true is white = let black : is_black x ≡ true = ap is_black (eqb-true x 45 is) in let never : true ≡ false = sym black ∙ white in absurd cc
black_or_no_dash x false is white = refl

one_more : (x : ℕ) (xs : List ℕ) (b : Bool) → is_black x ≡ b → list_all (λ x. not (is_dash x)) (cond b (x ∷ filter is_black xs) (filter is_black xs)) ≡ true
    → (not (is_dash x) ≡ true) × (list_all (λ x. not (is_dash x)) (filter is_black xs) ≡ true)
one_more x xs true black e = both_true (not (is_dash x)) _ e
one_more x xs false white e = (black_or_no_dash x (eqb x 45) refl white, e)

no_dash_in : (body : List ℕ) → list_all (λ x. not (is_dash x)) (filter is_black body) ≡ true → list_all (λ x. not (is_dash x)) body ≡ true
no_dash_in [] e = refl
no_dash_in (x ∷ xs) e =
    let one = one_more x xs (is_black x) refl e in
    rw one.0 (no_dash_in xs one.1)

no_dash_tested : all_below 64 (λ value. not (is_dash (symbol value))) ≡ true
unfolding symbol alphabet
no_dash_tested = refl

black_tested : all_below 64 (λ value. is_black (symbol value)) ≡ true
unfolding symbol alphabet
black_tested = refl

-- ---- the whole text

pub pem_found : (room : ℕ) (kind : Kind) (text bytes : List ℕ) → pem_at room kind text ≡ Ok bytes → Spells text kind bytes
unfolding pem_at
pem_found room kind text bytes e =
    let a = bind_ok _ _ bytes e in
    let b = bind_ok _ _ bytes a.2 in
    let opened : from_beginning text ≡ begin_line kind ++ a.0 = opened_found kind (from_beginning text) a.0 a.1 in
    let first = first_found text in
    let closed = closed_found (end_line kind) a.0 b.0 b.1 in
    let symbols = symbols_found room (filter is_black b.0) bytes b.2 in
    record {
      before = first.before;
      body = b.0;
      after = closed.after;
      is = first.is ∙ ap (λ (z : List ℕ). first.before ++ z) (begun_found kind text a.0 opened
          ∙ ap (λ (z : List ℕ). begin_line kind ++ z) closed.is);
      first = first.none;
      symbols = symbols.0;
      alone = closed.alone;
      in_range = symbols.1;
    }

pub pem_again : (room : ℕ) (kind : Kind) (text bytes : List ℕ) → Spells text kind bytes → length bytes ≤ room → pem_at room kind text ≡ Ok bytes
unfolding pem_at
pem_again room kind text bytes spells fits =
    let behind : List ℕ = spells.body ++ (end_line kind ++ spells.after) in
    let first : from_first beginning text ≡ begin_line kind ++ behind =
    ap (from_first beginning) spells.is
    ∙ first_again spells.before (begin_line kind ++ behind) (subst (λ (z : List ℕ). NoneBegins (length spells.before) z) spells.is spells.first) (line_begins kind behind) in
    let no_dash : list_all (λ x. not (is_dash x)) spells.body ≡ true =
    no_dash_in spells.body (ap (list_all (λ x. not (is_dash x))) spells.symbols ∙ all_pass (λ x. not (is_dash x)) no_dash_tested refl bytes spells.in_range) in
    rw (
      begun_so kind text behind first,
      opened_again kind behind,
      closed_again kind spells.body spells.after no_dash spells.alone,
      spells.symbols,
    ) (symbols_again room bytes spells.in_range fits)

-- ---- what is written

abbrev passes : (ℕ → Bool) → ℕ → Type 0
passes p x = p x ≡ true

kept_all : (p : ℕ → Bool) (xs : List ℕ) → AllPass p xs → filter p xs ≡ xs
kept_all p [] all = refl
kept_all p (x ∷ xs) all = rw (All-head (passes p) x xs all) (ap (λ (z : List ℕ). x ∷ z) (kept_all p xs (All-tail (passes p) x xs all)))

lines_kept : (count : ℕ) (text : List ℕ) → AllPass is_black text → length text ≤ 64 * count → filter is_black (lines count text) ≡ text
unfolding lines
lines_kept zero text all fits = sym (nil_from_length text (omega arith))
lines_kept (suc count) text all fits =
    let later : filter is_black (lines count (drop 64 text)) ≡ drop 64 text =
    lines_kept count (drop 64 text) (All-drop (passes is_black) 64 text all) (omega (arith, length-drop 64 text)) in
    filter-append is_black (take 64 text) (10 ∷ lines count (drop 64 text))
    ∙ ap (λ (z : List ℕ). z ++ filter is_black (lines count (drop 64 text))) (kept_all is_black (take 64 text) (All-take (passes is_black) 64 text all))
    ∙ ap (λ (z : List ℕ). take 64 text ++ z) later
    ∙ take-append-drop 64 text

pub pem_spells : (kind : Kind) (bytes : List ℕ) → IsBytes bytes → Spells (pem kind bytes) kind bytes
unfolding pem wrapped
pem_spells kind bytes small =
    let symbols : List ℕ = base64 bytes in
    let black : AllPass is_black symbols = AllPass-from_list_all is_black symbols (all_pass is_black black_tested refl bytes small) in
    record {
      before = [];
      body = 10 ∷ wrapped symbols;
      after = 10 ∷ [];
      is = refl;
      first = λ k few. absurd (omega arith);
      symbols = lines_kept ((length symbols + 63) / 64) symbols black (omega arith);
      alone = none_more 10 [] 0 refl (λ k few. absurd (omega arith));
      in_range = small;
    }

-- ---- line by line

pub wrapped_none : wrapped [] ≡ []
unfolding wrapped lines
wrapped_none = refl

-- a line of 64 symbols, and the others
whole_line : (line others : List ℕ) → length line ≡ 64 → wrapped (line ++ others) ≡ line ++ 10 ∷ wrapped others
unfolding wrapped lines
whole_line line others long =
    let count : (length (line ++ others) + 63) / 64 ≡ suc ((length others + 63) / 64) = omega (arith, length-append line others) in
    rw (count, take_at line others 64 long, drop_at line others 64 long) refl

-- the last line
last_line : (line : List ℕ) → 0 < length line → length line ≤ 64 → wrapped line ≡ line ++ 10 ∷ []
unfolding wrapped lines
last_line line some few =
    let count : (length line + 63) / 64 ≡ 1 = omega arith in
    rw (count, take_all 64 line few) refl

of_bytes : (bytes : List ℕ) (k : ℕ) → IsBytes bytes → IsBytes (take k bytes)
of_bytes [] zero small = small
of_bytes [] (suc k) small = small
of_bytes (x ∷ bytes) zero small = bytes_none
of_bytes (x ∷ bytes) (suc k) small = bytes_more x (take k bytes) (small 0) (of_bytes bytes k (λ i. small (suc i)))

pub line_written : (bytes line after : List ℕ) (k : ℕ) → IsBytes bytes → 0 < length bytes → k ≡ min 48 (length bytes) → line ≡ take k bytes → after ≡ drop k bytes
    → wrapped (base64 bytes) ≡ base64 line ++ 10 ∷ wrapped (base64 after)
line_written bytes line after k small some count front back =
    elim (cases_lt 48 (length bytes)) [
      | inl many ↦
          let is : k ≡ 48 = omega arith in
          let first : length line ≡ 48 = rw front (omega (arith, length-take k bytes)) in
          let first_small : IsBytes line = rw front (of_bytes bytes k small) in
          let both : bytes ≡ line ++ after = rw (front, back) (sym (take-append-drop k bytes)) in
          let long : length (base64 line) ≡ 64 = how_long line first_small ∙ ap base64_length first in
          ap (λ (z : List ℕ). wrapped (base64 z)) both ∙ ap wrapped (of_both line after first_small (ap (λ (n : ℕ). n % 3) first)) ∙ whole_line (base64 line) (base64 after) long
      | inr few ↦
          let is : k ≡ length bytes = omega arith in
          let first : line ≡ bytes = front ∙ take_all k bytes (omega arith) in
          let none : after ≡ [] = back ∙ drop_all k bytes (omega arith) in
          let long : length (base64 bytes) ≡ base64_length (length bytes) = how_long bytes small in
          last_line (base64 bytes) (omega (arith, long)) (omega (arith, long))
          ∙ ap (λ (z : List ℕ). base64 z ++ 10 ∷ []) (sym first) ∙ ap (λ (z : List ℕ). base64 line ++ 10 ∷ z) (sym wrapped_none ∙ ap wrapped (sym of_none ∙ ap base64 (sym none)))
    ]

-- what is written and what is still to be written, after one more line
pub line_put : (front bytes line after total symbols written : List ℕ) (k : ℕ) → IsBytes bytes → 0 < length bytes → k ≡ min 48 (length bytes) → line ≡ take k bytes → after ≡ drop k bytes
    → symbols ≡ front ++ base64 line → written ≡ symbols ++ 10 ∷ [] → front ++ wrapped (base64 bytes) ≡ total → written ++ wrapped (base64 after) ≡ total
line_put front bytes line after total symbols written k small some count first back put end so_far =
    ap (λ (z : List ℕ). z ++ wrapped (base64 after)) (end ∙ ap (λ (z : List ℕ). z ++ 10 ∷ []) put)
    ∙ append_assoc (front ++ base64 line) (10 ∷ []) (wrapped (base64 after)) ∙ append_assoc front (base64 line) (10 ∷ wrapped (base64 after))
    ∙ ap (λ (z : List ℕ). front ++ z) (sym (line_written bytes line after k small some count first back)) ∙ so_far

of_rest : (bytes : List ℕ) (k : ℕ) → IsBytes bytes → IsBytes (drop k bytes)
of_rest [] zero small = small
of_rest [] (suc k) small = small
of_rest (x ∷ bytes) zero small = small
of_rest (x ∷ bytes) (suc k) small = of_rest bytes k (λ i. small (suc i))

pub rest_small : (bytes after : List ℕ) (k : ℕ) → IsBytes bytes → after ≡ drop k bytes → IsBytes after
rest_small bytes after k small is = rw is (of_rest bytes k small)

pub line_placed : (n k line after : ℕ) → 0 < n → k ≡ min 48 n → line ≡ k → after ≡ n - k → base64_length line + 1 + lines_length after ≡ lines_length n
line_placed n k line after some is first left =
    elim (cases_lt 48 n) [
      | inl many ↦
          let whole : line ≡ 48 = omega arith in
          let rest : n ≡ after + 48 = omega arith in
          rw (whole, rest) (omega arith)
      | inr few ↦
          let whole : line ≡ n = omega arith in
          let none : after ≡ 0 = omega arith in
          rw (whole, none) (omega arith)
    ]

pub all_put : (first text total : List ℕ) → length text ≡ 0 → first ++ wrapped (base64 text) ≡ total → first ≡ total
all_put first text total none so_far =
    let is : text ≡ [] = nil_from_length text none in
    sym (append-nil first) ∙ ap (λ (z : List ℕ). first ++ z) (sym (ap (λ (z : List ℕ). wrapped (base64 z)) is ∙ ap wrapped of_none ∙ wrapped_none)) ∙ so_far

-- the parts of a text, one behind the other
pub parts_put : (one two three four five first lines last : List ℕ) → one ≡ first → two ≡ one ++ 10 ∷ [] → three ≡ two ++ lines → four ≡ three ++ last → five ≡ four ++ 10 ∷ []
    → five ≡ first ++ (10 ∷ (lines ++ (last ++ 10 ∷ [])))
parts_put one two three four five first lines last e1 e2 e3 e4 e5 =
    let end : List ℕ = 10 ∷ [] in
    e5 ∙ ap (λ (z : List ℕ). z ++ end) (e4 ∙ ap (λ (z : List ℕ). z ++ last) (e3 ∙ ap (λ (z : List ℕ). z ++ lines) (e2 ∙ ap (λ (z : List ℕ). z ++ end) e1)))
    ∙ append_assoc ((first ++ end) ++ lines) last end ∙ append_assoc (first ++ end) lines (last ++ end) ∙ append_assoc first end (lines ++ (last ++ end))

pub pem_put : (kind : Kind) (bytes one two three four five : List ℕ) → one ≡ begin_line kind → two ≡ one ++ 10 ∷ [] → three ≡ two ++ wrapped (base64 bytes)
    → four ≡ three ++ end_line kind → five ≡ four ++ 10 ∷ [] → five ≡ pem kind bytes
unfolding pem
pem_put kind bytes one two three four five e1 e2 e3 e4 e5 = parts_put one two three four five (begin_line kind) (wrapped (base64 bytes)) (end_line kind) e1 e2 e3 e4 e5

-- ---- reading step by step

pub not_opened : (room : ℕ) (kind : Kind) (text begun : List ℕ) (fault : PemFault) → begun ≡ from_beginning text → opened_at kind begun ≡ Err fault → pem_at room kind text ≡ Err fault
unfolding pem_at
not_opened room kind text begun fault is bad = rw (sym is, bad) refl

pub not_closed : (room : ℕ) (kind : Kind) (text begun rest last : List ℕ) (fault : PemFault) → begun ≡ from_beginning text → opened_at kind begun ≡ Ok rest
    → last ≡ end_line kind → closed_at last rest ≡ Err fault → pem_at room kind text ≡ Err fault
unfolding pem_at
not_closed room kind text begun rest last fault is good ends bad = rw (sym is, good, sym ends, bad) refl

pub symbols_left : (room : ℕ) (kind : Kind) (text begun rest last body : List ℕ) → begun ≡ from_beginning text → opened_at kind begun ≡ Ok rest
    → last ≡ end_line kind → closed_at last rest ≡ Ok body → symbols_at room (filter is_black body) ≡ pem_at room kind text
unfolding pem_at
symbols_left room kind text begun rest last body is good ends closed = rw (sym is, good, sym ends, closed) refl
