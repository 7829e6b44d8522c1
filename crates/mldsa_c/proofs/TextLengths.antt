-- How long the texts are.
use Rattle.std.proofs.Common.{◌≡◌, ◌<◌, ◌≤◌, ℕ, true, true≢false, length, inl, inr, subst, sym, ◌∙◌, refl, arith}
use Rattle.std.specs.List.{list_all}
use Rattle.std.proofs.lemmas.List.Folds.{list_all_at}
use Rattle.std.proofs.lemmas.Bool.{cases_lt}
use Rattle.std.proofs.lemmas.Bool.Decides.{leb_tells}
use Rattle.std.proofs.Math.Dec.{leb}
use Rattle.std.proofs.Math.ListN.{get_or-eq_default}
use Rattle.mldsa_c.specs.Numbers.{texts, no_status}
use Rattle.mldsa_c.specs.Texts.{text_of}

each_short : list_all (λ text. leb (length text) 63) texts ≡ true
each_short = refl

within : (number : ℕ) → number < length texts → length (text_of number) ≤ 63
within number below = elim (leb_tells (length (text_of number)) 63) [
  | inl (_, few) ↦ few
  | inr (more, _) ↦ absurd (true≢false (sym each_short ∙ list_all_at (λ text. leb (length text) 63) texts number no_status below more))
]

-- each fits into an array with a zero behind it
pub short : (number : ℕ) → length (text_of number) ≤ 63
short number = elim (cases_lt number (length texts)) [
  | inl below ↦ within number below
  | inr above ↦ subst (λ text. length text ≤ 63) (sym (get_or-eq_default texts no_status above)) (omega arith)
]
