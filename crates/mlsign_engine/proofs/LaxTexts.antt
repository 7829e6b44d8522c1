-- A text in the strict form stays as it is, but that its lines end in LF.
use Rattle.std.proofs.Common.{◌≡◌, ℕ, Bool, true, false, cond, eqb, not, List, [], ◌∷◌, ◌++◌, length, get_or, take, drop, refl, sym, ap, ◌∙◌, append_assoc}
use Rattle.std.specs.List.{position_or_len, filter, AllPass}
use Rattle.std.proofs.lemmas.List.{append_cancel_left, take_at, drop_at}
use Rattle.std.proofs.lemmas.List.Elements.{filter-append, All-append}
use Rattle.base64.specs.GeneralPurpose.{encode_of}
use Rattle.base64.specs.Engines.{standard}
use Rattle.mlsign_engine.specs.declared.pem.Kind.{Kind}
use Rattle.mlsign_engine.specs.declared.pem.Kind.TheVariants.{Public, Private}
use Rattle.mlsign_engine.specs.declared.pem.LineEnd.{LineEnd}
use Rattle.mlsign_engine.specs.declared.pem.LineEnd.TheVariants.{Lf, CrLf}
use Rattle.mlsign_engine.specs.Pem.{begin_line, end_line, line_end, wrapped, closing, pem, IsPem}
use Rattle.mlsign_engine.specs.PemReading.{begins, is_dash}
use Rattle.mlsign_engine.specs.Lax.{beginning, from_first, is_black, strict_closing, rewrapped, strict_form}
use Rattle.mlsign_engine.proofs.PemFiles.{begun_again, no_dash_in_ending}
use Rattle.mlsign_engine.proofs.Texts.{passes, wrapped_kept, wrapped_pass, encoded_passes, first_place}

white_ending : (ending : LineEnd) → filter is_black (line_end ending) ≡ []
white_ending Lf = refl
white_ending CrLf = refl

none_behind : (ending : LineEnd) → from_first beginning (line_end ending) ≡ []
none_behind Lf = refl
none_behind CrLf = refl

-- the beginning of a text of this kind is that of a text
from_beginning : (kind : Kind) (rest : List ℕ) → from_first beginning (begin_line kind ++ rest) ≡ begin_line kind ++ rest
from_beginning Public rest = refl
from_beginning Private rest = refl

closing_again : (kind : Kind) (ending : LineEnd) → strict_closing kind (closing kind ending) ≡ closing kind Lf
unfolding strict_closing
closing_again kind ending =
    rw (
      begun_again (end_line kind) (line_end ending),
      drop_at (end_line kind) (line_end ending) (length (end_line kind)) refl,
      none_behind ending,
    ) refl

dash_first : (kind : Kind) (ending : LineEnd) → closing kind ending ≡ 45 ∷ drop 1 (closing kind ending)
dash_first Public ending = refl
dash_first Private ending = refl

no_dash : (ending : LineEnd) (symbols : List ℕ) → AllPass (λ x. not (is_dash x)) symbols → AllPass (λ x. not (is_dash x)) (wrapped (line_end ending) symbols)
no_dash ending symbols all = wrapped_pass (λ x. not (is_dash x)) (line_end ending) symbols (no_dash_in_ending ending) all

pub strict_again : (kind : Kind) (ending : LineEnd) (der : List ℕ) → strict_form kind (pem kind ending der) ≡ pem kind Lf der
unfolding strict_form rewrapped pem
strict_again kind ending der =
    let symbols : List ℕ = encode_of standard der in
    let end : List ℕ = line_end ending in
    let lines : List ℕ = wrapped end symbols in
    let body : List ℕ = end ++ lines in
    let last : List ℕ = closing kind ending in
    let text : List ℕ = end ++ (lines ++ last) in
    let joined : text ≡ body ++ last = sym (append_assoc end lines last) in
    let dashless : AllPass (λ x. not (is_dash x)) body =
    All-append (passes (λ x. not (is_dash x))) end lines (no_dash_in_ending ending) (no_dash ending symbols (encoded_passes (λ x. not (is_dash x)) der refl refl refl)) in
    let at : position_or_len is_dash text ≡ length body =
    ap (position_or_len is_dash) joined ∙ ap (λ (z : List ℕ). position_or_len is_dash (body ++ z)) (dash_first kind ending)
    ∙ first_place is_dash body (drop 1 last) 45 dashless refl in
    let front : take (length body) text ≡ body = ap (take (length body)) joined ∙ take_at body last (length body) refl in
    let back : drop (length body) text ≡ last = ap (drop (length body)) joined ∙ drop_at body last (length body) refl in
    let kept : filter is_black body ≡ symbols =
    filter-append is_black end lines ∙ ap (λ (z : List ℕ). z ++ filter is_black lines) (white_ending ending)
    ∙ wrapped_kept is_black end symbols (white_ending ending) (encoded_passes is_black der refl refl refl) in
    rw (
      from_beginning kind text,
      begun_again (begin_line kind) text,
      drop_at (begin_line kind) text (length (begin_line kind)) refl,
      at,
      front,
      back,
      kept,
      closing_again kind ending,
    ) refl

pub strict_of_text : (kind : Kind) (text der : List ℕ) → IsPem text kind der → strict_form kind text ≡ pem kind Lf der
strict_of_text kind text der is = ap (strict_form kind) is.is ∙ strict_again kind is.ending der

-- ---- the lines of a text in the strict form end in LF

abbrev behind : LineEnd → Kind → List ℕ → List ℕ
behind ending kind der = line_end ending ++ (wrapped (line_end ending) (encode_of standard der) ++ closing kind ending)

begins_so : (kind : Kind) (ending : LineEnd) (der text : List ℕ) → text ≡ pem kind ending der → begins (begin_line kind) text ≡ true
unfolding pem
begins_so kind ending der text is = ap (begins (begin_line kind)) is ∙ begun_again (begin_line kind) (behind ending kind der)

begun_so : (kind : Kind) (ending : LineEnd) (der text : List ℕ) → text ≡ pem kind ending der → begins (begin_line kind) (from_first beginning text) ≡ true
unfolding pem
begun_so kind ending der text is =
    ap (λ (z : List ℕ). begins (begin_line kind) (from_first beginning z)) is
    ∙ ap (begins (begin_line kind)) (from_beginning kind (behind ending kind der)) ∙ begun_again (begin_line kind) (behind ending kind der)

other_ends : (one other : List ℕ) → line_end Lf ++ one ≡ line_end CrLf ++ other → ⊥
other_ends one other same = let told : true ≡ false = ap (λ (z : List ℕ). eqb (get_or z 0 0) 10) same in absurd cc

no_crlf : (kind : Kind) (text der : List ℕ) → strict_form kind text ≡ pem kind CrLf der → ⊥
unfolding strict_form rewrapped pem
no_crlf kind text der same = case_of (begins (begin_line kind) begun) (eqb (length begun) 0) refl same
  where
    begun : List ℕ
    begun = from_first beginning text

    case_of : (b empty : Bool) → begins (begin_line kind) begun ≡ b → cond b (rewrapped kind begun) (cond empty text begun) ≡ pem kind CrLf der → ⊥
    case_of true empty is same = other_ends _ _ (append_cancel_left (begin_line kind) _ _ same)
    case_of false true other same = let yes = begun_so kind CrLf der text same in absurd cc
    case_of false false other same = let yes = begins_so kind CrLf der begun same in absurd cc

pub strict_is_lf : (kind : Kind) (text der : List ℕ) → IsPem (strict_form kind text) kind der → strict_form kind text ≡ pem kind Lf der
strict_is_lf kind text der is = case_of is.ending is.is
  where
    case_of : (ending : LineEnd) → strict_form kind text ≡ pem kind ending der → strict_form kind text ≡ pem kind Lf der
    case_of Lf same = same
    case_of CrLf same = absurd (no_crlf kind text der same)
