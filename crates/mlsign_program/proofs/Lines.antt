-- The lines of a list.
use Rattle.std.proofs.Common.{◌≡◌, ◌∙◌, ℕ, Bool, List, [], ◌∷◌, ◌++◌, ◌⊎◌, ◌+◌, inl, inr, ap, append_assoc, arith, length-append, flat_map, Option, Some, None, IfSome, MatchOption, Bor, drop, length, refl, rules, subst, sym}
use Rattle.std.proofs.lemmas.List.{append-nil, flat_map_more, nil_from_length}
use Rattle.std.proofs.Math.Seq.{drop-append-add, get_or-append_seam}
use Rattle.std.proofs.lemmas.Slice.Zip.{all_zipped_more}
use Rattle.std.proofs.lemmas.Str.{IsCharBoundary-after_ascii, IsUtf8-drop}
use Rattle.std.specs.List.{AllZip}
use Rattle.std.specs.Str.{IsUtf8}
use Rattle.std.specs.Option.{option_or}
use Rattle.mlsign_program.specs.Sums.{IsLineOf, IsLineOfSum, IsListOf, IsWritten, escape_front, with_end}
use Rattle.mlsign_program.specs.declared.sums.Sum.{Sum}

-- what stands behind a blank or a star
pub behind_mode : (rest : List ℕ) (a b r : Option (Bor (List ℕ))) → MatchOption a ((x : List ℕ) → rest ≡ 32 ∷ x → ⊥) (λ x. rest ≡ 32 ∷ x.now)
    → MatchOption b ((x : List ℕ) → rest ≡ 42 ∷ x → ⊥) (λ x. rest ≡ 42 ∷ x.now) → r ≡ option_or a b
    → IfSome r (λ x. (mode : ℕ) × ((mode ≡ 32) ⊎ (mode ≡ 42)) × (rest ≡ mode ∷ x.now))
behind_mode rest (Some x) b r blank star is = rw is (32, inl refl, blank)
behind_mode rest None (Some y) r blank star is = rw is (42, inr refl, star)
behind_mode rest None None r blank star is = rw is (search rules)

-- the parts of a line
pub line_of_parts : (line behind digits rest text name : List ℕ) (escaped : Bool) (mode : ℕ) → line ≡ escape_front escaped ++ behind
    → behind ≡ digits ++ (32 ∷ rest) → (mode ≡ 32) ⊎ (mode ≡ 42) → rest ≡ mode ∷ text → IsWritten escaped text name → length digits ≡ 64
    → IsLineOf line digits name
line_of_parts line behind digits rest text name escaped mode front parts is_mode moded is_name is_long =
    record {
      escaped = escaped;
      mode = mode;
      text = text;
      is_mode = is_mode;
      is_name = is_name;
      is_long = is_long;
      is_whole = front ∙ ap (λ x. escape_front escaped ++ x) (parts ∙ ap (λ x. digits ++ (32 ∷ x)) moded);
    }

-- what stands behind LF is text too
text_behind : (rest line after : List ℕ) → IsUtf8 rest → rest ≡ line ++ (10 ∷ after) → IsUtf8 after
text_behind rest line after text parts =
    subst IsUtf8 (ap (λ x. drop (length line + 1) x) parts ∙ drop-append-add line (10 ∷ after) 1)
    (IsUtf8-drop rest (length line + 1) text
    (IsCharBoundary-after_ascii rest (length line) text (rw parts (omega (arith, length-append line (10 ∷ after))))
    (rw parts (omega (arith, get_or-append_seam line 10 after 0)))))

-- the lines so far, and the rest of the list
pub record IsBegun (list rest : List ℕ) (sums : List Sum) : Type 0 where
  pub lines : List (List ℕ)
  pub written : AllZip IsLineOfSum lines sums
  pub text : IsUtf8 rest
  pub whole : list ≡ flat_map with_end lines ++ rest

pub begun : (list : List ℕ) → IsUtf8 list → IsBegun list list []
begun list text = record { lines = []; written = search rules; text = text; whole = refl }

-- one line more
pub begun_more : (list rest line after : List ℕ) (sums : List Sum) (sum : Sum) → IsBegun list rest sums → rest ≡ line ++ (10 ∷ after) → IsLineOfSum line sum
    → IsBegun list after (sums ++ sum ∷ [])
begun_more list rest line after sums sum before parts is =
    record {
      lines = before.lines ++ line ∷ [];
      written = all_zipped_more IsLineOfSum before.lines sums line sum before.written is;
      text = text_behind rest line after before.text parts;
      whole =
          before.whole ∙ ap (λ x. flat_map with_end before.lines ++ x) (parts ∙ sym (append_assoc line (10 ∷ []) after))
          ∙ sym (append_assoc (flat_map with_end before.lines) (with_end line) after)
          ∙ ap (λ x. x ++ after) (flat_map_more with_end [] before.lines line);
    }

-- all lines
pub is_list : (list rest : List ℕ) (sums : List Sum) → IsBegun list rest sums → length rest ≡ 0 → IsListOf list sums
is_list list rest sums all none = (all.lines, all.written, all.whole ∙ ap (λ x. flat_map with_end all.lines ++ x) (nil_from_length rest none) ∙ append-nil _)
