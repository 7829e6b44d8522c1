-- A message in pieces, and a state of zeros.
use Rattle.std.proofs.Common.{rules, ◌≡◌, ◌≤◌, ◌+◌, ℕ, List, [], ◌∷◌, ◌++◌, length, replicate, None, refl, sym, ap, ◌∙◌, subst, arith, inl, inr, append_assoc}
use Rattle.std.specs.List.{concat}
use Rattle.std.specs.Prelude.{◌↔◌}
use Rattle.std.proofs.lemmas.Bool.{cases_lt, le-ltb}
use Rattle.std.proofs.lemmas.List.{get_or-replicate, length-replicate, append-nil}
use Rattle.std.proofs.lemmas.List.Concat.{concat_is, flat_map-cons}
use Rattle.fips204.specs.Framing.{plain, representative}
use Rattle.fips204.specs.ParameterSets.{ParameterSet, public_key_length, private_key_length}
use Rattle.fips204.specs.Refusals.{input_fault}
use Rattle.fips204_shake.specs.Mu as mus
use Rattle.fips204_shake.specs.Fronts.{shake256_front, shake128_front}
use Rattle.fips204_shake.specs.Pieces.{HashesSaved}
use Rattle.shake.specs.State.{CanBeSaved}
use Rattle.mldsa_c.specs.Calls.{SignAnswers, SignMuAnswers, VerifyAnswers, VerifyMuAnswers}
use Rattle.mldsa_c.specs.Pieces.{Keeps, Begins, Updates, Finishes, Takes}
use Rattle.mldsa_c.proofs.ByStatus.{sized}
use Rattle.mldsa_c.proofs.Mu.{mu_signed, mu_judged}

begun : (wanted : ℕ) (key tr context old new : List ℕ) → Begins wanted key tr context old new 0 → (length context ≤ 255) × HashesSaved new tr context []
begun wanted key tr context old new begins =
    let both = sized wanted key (sized 337 old begins (λ (_, two). absurd cc)) (λ (_, two). absurd cc) in
    elim (cases_lt 255 (length context)) [
      | inl long ↦ let four = (both.1 long).1 in absurd cc
      | inr short ↦ (short, (both.0 short).0)
    ]

concat-cons : (x : List ℕ) (xs : List (List ℕ)) → concat (x ∷ xs) ≡ x ++ concat xs
concat-cons x xs = concat_is (x ∷ xs) ∙ flat_map-cons (λ y. y) x xs ∙ ap (λ rest. x ++ rest) (sym (concat_is xs))

taken : (tr context m : List ℕ) (pieces : List (List ℕ)) (old new : List ℕ) → HashesSaved old tr context m → Takes old pieces new → HashesSaved new tr context (m ++ concat pieces)
taken tr context m [] old new held is = subst (λ all. HashesSaved new tr context all) (sym (append-nil m)) (subst (λ state. HashesSaved state tr context m) (sym is) held)
taken tr context m (piece ∷ pieces) old new held (between, updates, takes) =
    let used = (sized 337 old updates (λ (_, two). absurd cc)).0 held.0 in
    let joined : (m ++ piece) ++ concat pieces ≡ m ++ concat (piece ∷ pieces) = append_assoc m piece (concat pieces) ∙ ap (λ rest. m ++ rest) (sym (concat-cons piece pieces)) in
    subst (λ all. HashesSaved new tr context all) joined (taken tr context (m ++ piece) pieces between new (used.0 tr context m held) takes)

finished : (tr context m state mu mu' : List ℕ) → HashesSaved state tr context m → Finishes state mu mu' 0 → mu' ≡ representative shake256_front tr (plain m context)
finished tr context m state mu mu' held finishes =
    let used = (sized 337 state (sized 64 mu finishes (λ (_, two). absurd cc)) (λ (_, two). absurd cc)).0 held.0 in
    used.0 tr context m held

-- mu of the joined pieces, and that they break no condition
whole : (wanted : ℕ) (key tr context begun_of state last none mu : List ℕ) (pieces : List (List ℕ)) → Begins wanted key tr context begun_of state 0 → Takes state pieces last
    → Finishes last none mu 0 → (mu ≡ representative shake256_front tr (plain (concat pieces) context)) × (input_fault (plain (concat pieces) context) ≡ None)
whole wanted key tr context begun_of state last none mu pieces begins takes finishes =
    let (short, held) = begun wanted key tr context begun_of state begins in
    (finished tr context (concat pieces) last none mu (taken tr context [] pieces state last held takes) finishes, rw (le-ltb 255 (length context) short) refl)

module _ (p : ParameterSet) (law : mus.MuStandsForInput p shake256_front shake128_front) where
  pub signed : (key context old_state state last none mu : List ℕ) (pieces : List (List ℕ)) (random old new : List ℕ) (status : ℕ)
      → Begins (private_key_length p) key (mus.tr_of_private key) context old_state state 0 → Takes state pieces last → Finishes last none mu 0
      → SignMuAnswers p key mu random old new status ↔ SignAnswers p key (plain (concat pieces) context) random old new status
  signed key context old_state state last none mu pieces random old new status begins takes finishes =
      let (is, breaks) = whole (private_key_length p) key (mus.tr_of_private key) context old_state state last none mu pieces begins takes finishes in
      subst (λ hash. SignMuAnswers p key hash random old new status ↔ SignAnswers p key (plain (concat pieces) context) random old new status) (sym is)
      (mu_signed p law key (plain (concat pieces) context) random old new status refl breaks)

  pub judged : (key context old_state state last none mu : List ℕ) (pieces : List (List ℕ)) (signature : List ℕ) (status : ℕ)
      → Begins (public_key_length p) key (mus.tr_of_public shake256_front key) context old_state state 0 → Takes state pieces last → Finishes last none mu 0
      → VerifyMuAnswers p key mu signature status ↔ VerifyAnswers p key (plain (concat pieces) context) signature status
  judged key context old_state state last none mu pieces signature status begins takes finishes =
      let (is, breaks) = whole (public_key_length p) key (mus.tr_of_public shake256_front key) context old_state state last none mu pieces begins takes finishes in
      subst (λ hash. VerifyMuAnswers p key hash signature status ↔ VerifyAnswers p key (plain (concat pieces) context) signature status) (sym is)
      (mu_judged p law key (plain (concat pieces) context) signature status refl breaks)

pub zeros : ¬ (CanBeSaved 136 (replicate 337 0))
zeros can = let none = get_or-replicate {A = ℕ} 337 336 0 0 (search rules) in omega (arith, none, can.0)

pub unused : (piece new : List ℕ) (status : ℕ) → Updates (replicate 337 0) new piece status → Keeps (replicate 337 0) new status 13
unused piece new status updates = (updates.0 (length-replicate {A = ℕ} 337 0)).1 zeros

pub unfinished : (mu mu' : List ℕ) (status : ℕ) → length mu ≡ 64 → Finishes (replicate 337 0) mu mu' status → Keeps mu mu' status 13
unfinished mu mu' status long finishes = ((finishes.0 long).0 (length-replicate {A = ℕ} 337 0)).1 zeros
