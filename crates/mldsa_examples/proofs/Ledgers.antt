-- A ledger stands after one more entry that fits.
use Rattle.std.proofs.Common.{◌≡◌, ◌<◌, ◌-◌, ℕ, List, [], ◌∷◌, ◌++◌, length, arith, length-append, below_more, refl}
use Rattle.std.proofs.lemmas.List.{get_or_append_left}
use Rattle.std.proofs.Math.Seq.{get_or-append_seam}
use Rattle.mldsa_examples.specs.Ledger.{hash_before, Fits, EachFits}
use Rattle.mldsa_examples.specs.declared.ledger.Entry.{Entry}

before_last : (old : List Entry) (entry : Entry) → hash_before (old ++ entry ∷ []) (length old) ≡ hash_before old (length old)
before_last [] entry = refl
before_last (first ∷ rest) entry = rw (get_or_append_left (first ∷ rest) (entry ∷ []) _ (length (first ∷ rest) - 1) (omega arith))

pub still_stands : (accepts : List ℕ → List ℕ → Type 0) (old : List Entry) (entry : Entry) → entry.previous ≡ hash_before old (length old)
    → accepts (entry.previous ++ entry.payload) entry.signature → EachFits accepts old → EachFits accepts (old ++ entry ∷ [])
still_stands accepts old entry linked signed stood place below =
    below_more (Fits accepts (old ++ entry ∷ [])) (length old)
    (λ k inside. let before : k - 1 < length old = omega arith in record {
      linked = simp get_or_append_left (stood k inside).linked;
      signed = simp get_or_append_left (stood k inside).signed;
    })
    (record { linked = rw (get_or-append_seam old entry [], before_last) linked; signed = rw (get_or-append_seam old entry []) signed })
    place (omega (arith, below, length-append old (entry ∷ [])))
