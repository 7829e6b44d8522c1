-- Names as `sha256sum` writes them.
use Rattle.std.proofs.Common.{◌≡◌, ◌∙◌, ℕ, Bool, false, ◌||◌, List, [], ◌∷◌, ◌++◌, ap, sym, append_assoc, flat_map}
use Rattle.std.proofs.Math.Bool.{or-false}
use Rattle.std.proofs.lemmas.List.{append-nil, flat_map_more}
use Rattle.std.proofs.lemmas.List.Folds.{list_any-append}
use Rattle.std.proofs.lemmas.Str.{encodes-append}
use Rattle.std.specs.List.{list_any}
use Rattle.std.specs.Prelude.{encode_utf8, encode_utf8_all}
use Rattle.mlsign_program.specs.Sums.{escape_front, is_escaped, written}

-- these characters of a text were read, the last maybe a backslash, and the name is what they stand for
pub record IsRead (name yielded : List ℕ) (is_escape has_escape : Bool) : Type 0 where
  pub characters : List ℕ
  pub plain : name ≡ encode_utf8_all characters
  pub text : yielded ≡ flat_map written characters ++ escape_front is_escape
  pub has : has_escape ≡ (list_any is_escaped characters || is_escape)

-- one character of the name more
pub read_more : (name yielded : List ℕ) (is_escape has_escape : Bool) (character plain : ℕ) → IsRead name yielded is_escape has_escape
    → (is_escape ≡ is_escaped plain) × (written plain ≡ escape_front is_escape ++ character ∷ [])
    → IsRead (name ++ encode_utf8 plain) (yielded ++ character ∷ []) false has_escape
read_more name yielded is_escape has_escape character plain read told =
    record {
      characters = read.characters ++ plain ∷ [];
      plain =
          ap (λ bs. bs ++ encode_utf8 plain) read.plain ∙ ap (λ bs. encode_utf8_all read.characters ++ bs) (sym (append-nil (encode_utf8 plain)))
          ∙ sym (encodes-append read.characters (plain ∷ []));
      text =
          ap (λ cs. cs ++ character ∷ []) read.text ∙ append_assoc (flat_map written read.characters) (escape_front is_escape) (character ∷ [])
          ∙ ap (λ cs. flat_map written read.characters ++ cs) (sym told.1) ∙ flat_map_more written [] read.characters plain ∙ sym (append-nil _);
      has = simp (list_any-append {X = ℕ}, or-false) (read.has ∙ ap (λ b. list_any is_escaped read.characters || b) told.0);
    }
