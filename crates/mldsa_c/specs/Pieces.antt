-- What the exported calls on a message in pieces return. A state is a hasher in 337 bytes, and a last status is the result.
use Rattle.std.specs.Prelude.{◌≡◌, ◌<◌, ◌≤◌, ℕ, List, [], ◌∷◌, ◌++◌, length}
use Rattle.fips204.specs.Framing.{plain, representative}
use Rattle.fips204_shake.specs.Fronts.{shake256_front}
use Rattle.fips204_shake.specs.Pieces.{HashesSaved}
use Rattle.shake.specs.State.{CanBeSaved}
use Rattle.mldsa_c.specs.Calls.{IfSized}

-- an array is as it was
abbrev pub Keeps : List ℕ → List ℕ → ℕ → ℕ → Type 0
Keeps old new status why = (new ≡ old) × (status ≡ why)

-- mu_begin and mu_begin_private: a state of no message yet, under the tr of a key of the wanted length and a context of at most 255 bytes
abbrev pub Begins : ℕ → List ℕ → List ℕ → List ℕ → List ℕ → List ℕ → ℕ → Type 0
Begins wanted key tr context old new status =
    IfSized 337 old (IfSized wanted key
    (((length context ≤ 255) → HashesSaved new tr context [] × (status ≡ 0)) × ((255 < length context) → Keeps old new status 4))
    (Keeps old new status 3)) (Keeps old new status 3)

-- a state whose last byte is from 1 to 136 is used; any other, as zeros, gives 13
abbrev pub IfState : List ℕ → Type 0 → (ℕ → Type 0) → Type 0
IfState state uses refuses =
    IfSized 337 state ((CanBeSaved 136 state → uses) × (¬ (CanBeSaved 136 state) → refuses 13)) (refuses 3)

-- mu_update: whatever part of a message the state had taken, it has taken the piece as well
abbrev pub Updates : List ℕ → List ℕ → List ℕ → ℕ → Type 0
Updates old new piece status =
    IfState old (((tr context m : List ℕ) → HashesSaved old tr context m → HashesSaved new tr context (m ++ piece)) × (status ≡ 0)) (Keeps old new status)

-- mu_finish: mu of the message that the state has taken
abbrev pub Finishes : List ℕ → List ℕ → List ℕ → ℕ → Type 0
Finishes state mu mu' status =
    IfSized 64 mu (IfState state (((tr context m : List ℕ) → HashesSaved state tr context m → mu' ≡ representative shake256_front tr (plain m context)) × (status ≡ 0))
    (Keeps mu mu' status)) (Keeps mu mu' status 3)

-- mu_update of each of these pieces, one after another, makes the second state of the first one
abbrev pub Takes : List ℕ → List (List ℕ) → List ℕ → Type 0
Takes old [] new = new ≡ old
Takes old (piece ∷ pieces) new = (between : List ℕ) × Updates old between piece 0 × Takes between pieces new
