-- What calls write into arrays of their callers.
use Rattle.std.proofs.Common.{rules, ◌≡◌, ap, refl, subst, List, ℕ, Option, Some, None, Result, Ok, Err, IfOk}
use Rattle.std.specs.Bool.{⊤}
use Rattle.fips204.proofs.Names.{Fault, Input, representative, refused_or, input_fault, input_hash, Writes}
use Rattle.fips204.proofs.RefusedCalls.{given_input}

-- what is made is written
pub writes_made : (made : Result (List ℕ) Fault) (old new : List ℕ) → made ≡ Ok new → Writes made old new (Ok tt)
writes_made made old new e = rw e (refl, refl)

-- nothing is made
pub writes_nothing : (made : Result (List ℕ) Fault) (old new : List ℕ) (fault : Fault) (result : Result ⊤ Fault) → made ≡ Err fault → new ≡ old → result ≡ Err fault
    → Writes made old new result
writes_nothing made old new fault result e kept refused = rw e (kept, refused)

-- what stands in the array was made
pub written : (made : Result (List ℕ) Fault) (old new : List ℕ) → Writes made old new (Ok tt) → Ok new ≡ made
written (Ok bytes) old new w = ap Ok w.0
written (Err fault) old new w = absurd (let e = w.1 in cc)

pub not_written : (made : Result (List ℕ) Fault) (old new : List ℕ) (fault : Fault) → Writes made old new (Err fault) → Err fault ≡ made
not_written (Ok bytes) old new fault w = absurd (let e = w.1 in cc)
not_written (Err why) old new fault w = let e = w.1 in cc

-- what holds of what was made
pub if_written : (made : Result (List ℕ) Fault) (old new : List ℕ) (result : Result ⊤ Fault) (P : Type 0) → Writes made old new result → (Ok new ≡ made → P) → IfOk result (λ _. P)
if_written made old new (Ok tt) P w holds = holds (written made old new w)
if_written made old new (Err fault) P w holds = search rules

-- of an input: what its mu makes, or nothing where it is rejected
pub writes_input : (H : List ℕ → List ℕ) (tr mu : List ℕ) (input : Input) (makes : List ℕ → Result (List ℕ) Fault) (old new : List ℕ) (result : Result ⊤ Fault) → Ok mu ≡ input_hash H tr input
    → Writes (makes mu) old new result → Writes (refused_or (input_fault input) (makes (representative H tr input))) old new result
writes_input H tr mu input makes old new result e w =
    let given = given_input H tr tr mu input refl e in
    rw given.0 (subst (λ m. Writes (makes m) old new result) given.1 w)

pub writes_refused : (H : List ℕ → List ℕ) (tr : List ℕ) (input : Input) (made : Result (List ℕ) Fault) (old new : List ℕ) (fault : Fault) (result : Result ⊤ Fault) → Err fault ≡ input_hash H tr input
    → new ≡ old → result ≡ Err fault → Writes (refused_or (input_fault input) made) old new result
writes_refused H tr input made old new fault result e kept refused = by_fault (input_fault input) e
  where
    by_fault : (first : Option Fault) → Err fault ≡ refused_or first (Ok (representative H tr input)) → Writes (refused_or first made) old new result
    by_fault None e = absurd cc
    by_fault (Some why) e = (kept, let same = e in cc)
