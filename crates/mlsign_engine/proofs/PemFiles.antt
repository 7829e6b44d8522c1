-- A text that is read spells what is read, and the bytes that a text spells are read.
use Rattle.std.proofs.Common.{◌≡◌, ℕ, Bool, true, false, cond, not, IfOk, Vec, Global, inl, inr, List, [], ◌∷◌, ◌++◌, length, take, drop, Result, Ok, Err, codes, refl, sym, ap, ◌∙◌}
use Rattle.std.specs.Str.{bytes_eq}
use Rattle.std.specs.List.{position_or_len, filter, AllPass}
use Rattle.std.proofs.lemmas.List.{take-append-drop, take_at, drop_at}
use Rattle.std.proofs.lemmas.List.Sums.{AllPass-from_list_all}
use Rattle.std.proofs.lemmas.Slice.Eq.{bytes_eq-Decides}
use Rattle.base64.specs.GeneralPurpose.{encode_of, IsBytes}
use Rattle.base64.specs.Engines.{standard}
use Rattle.base64.proofs.EngineFacts.{decode_of-encode_of}
use Rattle.mlsign_engine.specs.declared.fault.FileFault.{FileFault}
use Rattle.mlsign_engine.specs.declared.fault.FileFault.TheVariants.{NotPem, OtherKind, CutShort, Trailing, Text}
use Rattle.mlsign_engine.specs.declared.pem.Kind.{Kind}
use Rattle.mlsign_engine.specs.declared.pem.LineEnd.{LineEnd}
use Rattle.mlsign_engine.specs.declared.pem.LineEnd.TheVariants.{Lf, CrLf}
use Rattle.mlsign_engine.specs.Pem.{begin_line, line_end, wrapped, closing, pem, IsPem}
use Rattle.mlsign_engine.specs.PemReading.{begins, ended_at, opened_at, is_dash, closed_at, is_in_line, unwrapped_at, pem_at}
use Rattle.fips204_shake.proofs.Elements.{chosen, ok_is, met, same_bytes}
use Rattle.mlsign_engine.proofs.Texts.{wrapped_kept, wrapped_pass, encoded_passes, first_place}

-- ---- what is read is what is there

same_again : (a : List ℕ) → bytes_eq a a ≡ true
same_again a = (bytes_eq-Decides a a).1 refl

begun : (front text : List ℕ) → begins front text ≡ true → text ≡ front ++ drop (length front) text
begun front text e =
    sym (take-append-drop (length front) text) ∙ ap (λ (z : List ℕ). z ++ drop (length front) text) (sym (same_bytes front (take (length front) text) e))

pub begun_again : (front rest : List ℕ) → begins front (front ++ rest) ≡ true
begun_again front rest = ap (λ (z : List ℕ). bytes_eq front z) (take_at front rest (length front) refl) ∙ same_again front

ended_found : (rest : List ℕ) (x : LineEnd × List ℕ) → ended_at rest ≡ Ok x → rest ≡ line_end x.0 ++ x.1
ended_found rest x e =
    elim (chosen (begins (line_end Lf) rest) _ _ _ e) [
      | inl lf ↦ begun (line_end Lf) rest lf.0 ∙ ap (λ (y : LineEnd × List ℕ). line_end y.0 ++ y.1) (ok_is _ x lf.1)
      | inr other ↦
          elim (chosen (begins (line_end CrLf) rest) _ _ _ other.1) [
            | inl crlf ↦ begun (line_end CrLf) rest crlf.0 ∙ ap (λ (y : LineEnd × List ℕ). line_end y.0 ++ y.1) (ok_is _ x crlf.1)
            | inr none ↦ elim (chosen (begins rest (line_end CrLf)) _ _ _ none.1) [ inl a ↦ absurd (cc a.1) | inr b ↦ absurd (cc b.1) ]
          ]
    ]

-- a choice of three faults
refused : {A : Type 0} (a b : Bool) (x y z : FileFault) (w : A) → cond a (Err x) (cond b (Err y) (Err z)) ≡ Ok w → ⊥
refused true b x y z w e = cc
refused false true x y z w e = cc
refused false false x y z w e = cc

opened_found : (kind : Kind) (text : List ℕ) (x : LineEnd × List ℕ) → opened_at kind text ≡ Ok x → text ≡ begin_line kind ++ (line_end x.0 ++ x.1)
unfolding opened_at
opened_found kind text x e =
    elim (chosen (begins (begin_line kind) text) _ _ _ e) [
      | inl is ↦ begun (begin_line kind) text is.0 ∙ ap (λ (z : List ℕ). begin_line kind ++ z) (ended_found _ x is.1)
      | inr other ↦ absurd (refused (begins text (begin_line kind)) (begins (codes "-----BEGIN ") text) CutShort OtherKind NotPem x other.1)
    ]

closed_found : (last text body : List ℕ) → closed_at last text ≡ Ok body → text ≡ body ++ last
unfolding closed_at
closed_found last text body e =
    let dash = position_or_len is_dash text in
    elim (chosen (bytes_eq (drop dash text) last) _ _ _ e) [
      | inl is ↦
          sym (take-append-drop dash text) ∙ ap (λ (z : List ℕ). take dash text ++ z) (same_bytes _ _ is.0) ∙ ap (λ (z : List ℕ). z ++ last) (ok_is _ body is.1)
      | inr other ↦ absurd (refused (begins (drop dash text) last) (begins last (drop dash text)) CutShort Trailing Text body other.1)
    ]

unwrapped_found : (ending text symbols : List ℕ) → unwrapped_at ending text ≡ Ok symbols → text ≡ wrapped ending symbols
unfolding unwrapped_at
unwrapped_found ending text symbols e =
    let m = met (bytes_eq (wrapped ending (filter is_in_line text)) text) _ _ symbols e in
    sym (same_bytes _ _ m.0) ∙ ap (wrapped ending) m.1

-- ---- what is there is read

ended_again : (ending : LineEnd) (rest : List ℕ) → ended_at (line_end ending ++ rest) ≡ Ok (ending, rest)
ended_again Lf rest = refl
ended_again CrLf rest = refl

opened_again : (kind : Kind) (ending : LineEnd) (rest : List ℕ) → opened_at kind (begin_line kind ++ (line_end ending ++ rest)) ≡ Ok (ending, rest)
unfolding opened_at
opened_again kind ending rest =
    rw (
      begun_again (begin_line kind) (line_end ending ++ rest),
      drop_at (begin_line kind) (line_end ending ++ rest) (length (begin_line kind)) refl,
      ended_again ending rest,
    ) refl

closed_again : (tail body : List ℕ) → AllPass (λ x. not (is_dash x)) body → closed_at (45 ∷ tail) (body ++ 45 ∷ tail) ≡ Ok body
unfolding closed_at
closed_again tail body none =
    let at : position_or_len is_dash (body ++ 45 ∷ tail) ≡ length body = first_place is_dash body tail 45 none refl in
    let front : take (length body) (body ++ 45 ∷ tail) ≡ body = take_at body (45 ∷ tail) (length body) refl in
    let back : drop (length body) (body ++ 45 ∷ tail) ≡ 45 ∷ tail = drop_at body (45 ∷ tail) (length body) refl in
    rw (at, front, back, same_again (45 ∷ tail)) refl

unwrapped_again : (ending symbols : List ℕ) → filter is_in_line ending ≡ [] → AllPass is_in_line symbols
    → unwrapped_at ending (wrapped ending symbols) ≡ Ok symbols
unfolding unwrapped_at
unwrapped_again ending symbols dropped all = rw (wrapped_kept is_in_line ending symbols dropped all, same_again (wrapped ending symbols)) refl

ending_dropped : (ending : LineEnd) → filter is_in_line (line_end ending) ≡ []
ending_dropped Lf = refl
ending_dropped CrLf = refl

pub no_dash_in_ending : (ending : LineEnd) → AllPass (λ x. not (is_dash x)) (line_end ending)
no_dash_in_ending Lf = AllPass-from_list_all (λ x. not (is_dash x)) (line_end Lf) refl
no_dash_in_ending CrLf = AllPass-from_list_all (λ x. not (is_dash x)) (line_end CrLf) refl

pub pem_again : (kind : Kind) (ending : LineEnd) (der : List ℕ) → IsBytes der → pem_at kind (pem kind ending der) ≡ Ok der
unfolding pem_at pem
pem_again kind ending der bytes =
    let symbols : List ℕ = encode_of standard der in
    let body : List ℕ = wrapped (line_end ending) symbols in
    let plain : AllPass is_in_line symbols = encoded_passes is_in_line der refl refl refl in
    let no_dash : AllPass (λ x. not (is_dash x)) body =
    wrapped_pass (λ x. not (is_dash x)) (line_end ending) symbols (no_dash_in_ending ending) (encoded_passes (λ x. not (is_dash x)) der refl refl refl) in
    rw (
      opened_again kind ending (body ++ closing kind ending),
      closed_again (drop 1 (closing kind ending)) body no_dash,
      unwrapped_again (line_end ending) symbols (ending_dropped ending) plain,
      decode_of-encode_of standard der refl bytes,
    ) refl

pub pem_of_text : (text : List ℕ) (kind : Kind) (der : List ℕ) → IsPem text kind der → pem_at kind text ≡ Ok der
pem_of_text text kind der is = ap (pem_at kind) is.is ∙ pem_again kind is.ending der is.bytes

-- what was decoded of the symbols of a text
pub pem_of_symbols : (kind : Kind) (text : List ℕ) (ending : LineEnd) (rest body symbols : List ℕ) (r : Result (Vec ℕ Global) FileFault)
    → opened_at kind text ≡ Ok (ending, rest) → closed_at (closing kind ending) rest ≡ Ok body → unwrapped_at (line_end ending) body ≡ Ok symbols
    → IfOk r (λ x. symbols ≡ encode_of standard x.items) → IfOk r (λ x. IsBytes x.items) → IfOk r (λ x. IsPem text kind x.items)
unfolding pem
pem_of_symbols kind text ending rest body symbols (Ok x) opened closed unwrapped encoded bytes =
    record {
      ending = ending;
      bytes = bytes;
      is = opened_found kind text (ending, rest) opened ∙ ap (λ (z : List ℕ). begin_line kind ++ (line_end ending ++ z))
          (closed_found (closing kind ending) rest body closed ∙ ap (λ (z : List ℕ). z ++ closing kind ending)
          (unwrapped_found (line_end ending) body symbols unwrapped ∙ ap (wrapped (line_end ending)) encoded));
    }
pem_of_symbols kind text ending rest body symbols (Err fault) opened closed unwrapped encoded bytes = tt
