-- The rules of the tables of powers of zeta, by computing all their entries.
use Rattle.std.proofs.Common.{◌≡◌, ℕ, ◌<◌, ◌*◌, ◌%◌, arith, ap, sym, refl, ◌∙◌, ℤ, List, pos, neg_ℤ, ◌*ℤ◌, map, get_or, length, to_z, of_z}
use Rattle.std.specs.Int.{int_div_euclid, int_rem_euclid, int_wrap, w32, w64}
use Rattle.std.specs.List.{range_with_len}
use Rattle.std.proofs.lemmas.List.{get_or-map}
use Rattle.std.proofs.lemmas.List.FromFn.{get_or-map-range_with_len}
use Rattle.fips204_base.specs.Lanes.{HasQuotient}
use Rattle.fips204_base.specs.Residues.{sum_below}
use Rattle.fips204_base.specs.Transforms.{bit_reversed, zeta_at}
use Rattle.fips204_base.specs.declared.helpers.zeta_table.TheConstants.{ZETA_TABLE_MONT, WORDS, WORDS_OF_NEGATIVES}

abbrev coefficient_of : ℕ → ℤ
coefficient_of m = pos (zeta_at m * 4294967296 % 8380417)

table_whole : ZETA_TABLE_MONT ≡ map coefficient_of (range_with_len 0 256)
unfolding zeta_at bit_reversed sum_below
table_whole = refl

pub table_rule : (m : ℕ) → m < 256 → get_or ZETA_TABLE_MONT m (pos 0) ≡ coefficient_of m
table_rule m h = ap (λ l. get_or l m (pos 0)) table_whole ∙ get_or-map-range_with_len coefficient_of 0 256 m m (pos 0) h (omega arith)

-- ---- words
-- what two functions give of each entry of a table
same_at : (f g : ℤ → ℤ) (l : List ℤ) (m : ℕ) → m < length l → map f l ≡ map g l → f (get_or l m (pos 0)) ≡ g (get_or l m (pos 0))
same_at f g l m h e = sym (get_or-map f l m (pos 0) (pos 0) h) ∙ (ap (λ l. get_or l m (pos 0)) e ∙ get_or-map g l m (pos 0) (pos 0) h)

abbrev read : ℤ → ℤ
read x = to_z w64 (of_z w64 x)

abbrev factor : ℤ → ℤ
factor x = int_wrap w32 (read x)

abbrev high : ℤ → ℤ
high x = int_rem_euclid (int_div_euclid (read x) (pos 4294967296) *ℤ pos 8380417) (pos 4294967296)

abbrev low : ℤ → ℤ
low x = int_rem_euclid (read x) (pos 4294967296)

words_whole : map factor WORDS ≡ ZETA_TABLE_MONT
unfolding int_wrap
words_whole = refl

negatives_whole : map factor WORDS_OF_NEGATIVES ≡ map neg_ℤ ZETA_TABLE_MONT
unfolding int_wrap
negatives_whole = refl

pub word_factor : (m : ℕ) → m < 256 → factor (get_or WORDS m (pos 0)) ≡ coefficient_of m
word_factor m h = sym (get_or-map factor WORDS m (pos 0) (pos 0) h) ∙ (ap (λ l. get_or l m (pos 0)) words_whole ∙ table_rule m h)

pub negative_factor : (m : ℕ) → m < 256 → factor (get_or WORDS_OF_NEGATIVES m (pos 0)) ≡ neg_ℤ (coefficient_of m)
negative_factor m h =
    sym (get_or-map factor WORDS_OF_NEGATIVES m (pos 0) (pos 0) h) ∙ (ap (λ l. get_or l m (pos 0)) negatives_whole ∙ (get_or-map neg_ℤ ZETA_TABLE_MONT m (pos 0) (pos 0) h ∙ ap neg_ℤ (table_rule m h)))

pub word_quotient : (m : ℕ) → m < 256 → HasQuotient (read (get_or WORDS m (pos 0)))
word_quotient m h = same_at high low WORDS m h refl

pub negative_quotient : (m : ℕ) → m < 256 → HasQuotient (read (get_or WORDS_OF_NEGATIVES m (pos 0)))
negative_quotient m h = same_at high low WORDS_OF_NEGATIVES m h refl
