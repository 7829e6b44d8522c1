-- Results and errors of whole calls.
use Rattle.std.proofs.Common.{Result, ◌≡◌, ◌≤◌, ◌↔◌, inl, inr, ℕ, List, length, Bool, true, false, IsTrue, Option, Some, None, Ok, Err, refl, sym, ap, ◌∙◌, subst, nat_lt, if◌then◌else◌}
use Rattle.fips204.proofs.Names.{ltb-false, Fault, Input, representative, refused_or, input_fault, input_hash}
use Rattle.fips204.specs.Refusals.{DrawsUnless}

-- two values are the same where the options that hold them are
pub same_some : {A : Type 0} (x y : A) → Some x ≡ Some y → x ≡ y
same_some x y e = cc

-- and where the results that hold them are
pub same_ok : {A : Type 0} (x y : A) → Path (Result A Fault) (Ok x) (Ok y) → x ≡ y
same_ok x y e = cc

-- a result comes where no error stands first
pub not_refused : {A : Type 0} (fault : Option Fault) (answer : Result A Fault) (x : A) → refused_or fault answer ≡ Ok x
    → (fault ≡ None) × (answer ≡ Ok x)
not_refused None answer x e = (refl, e)
not_refused (Some fault) answer x e = absurd cc

-- what a test of a chain of errors says where none is given
pub passed : (test : Bool) (fault : Fault) (later : Option Fault) → (if test then Some fault else later) ≡ None → (test ≡ false) × (later ≡ None)
passed true fault later e = absurd (cc)
passed false fault later e = (refl, e)

-- a context that isn't rejected is short, and what is asked after it isn't rejected either
pub short_context : (context : List ℕ) (fault : Fault) (later : Option Fault) → (if nat_lt 255 (length context) then Some fault else later) ≡ None
    → (length context ≤ 255) × (later ≡ None)
short_context context fault later e =
    let both = passed (nat_lt 255 (length context)) fault later e in
    (ltb-false 255 (length context) both.0, both.1)

-- mu of an input that isn't rejected
pub given_input : (H : List ℕ → List ℕ) (tr own mu : List ℕ) (input : Input) → tr ≡ own → Ok mu ≡ input_hash H tr input
    → (input_fault input ≡ None) × (mu ≡ representative H own input)
given_input H tr own mu input same e =
    let hash = representative H tr input in
    let made = not_refused (input_fault input) (Ok hash) mu (sym e) in
    let is : hash ≡ mu = let answer = made.1 in cc in
    (made.0, sym is ∙ ap (λ t. representative H t input) same)

-- a verdict over mu of an input is the verdict over the input
pub verified_input : (H : List ℕ → List ℕ) (tr mu : List ℕ) (input : Input) (accepts : List ℕ → Type 0) (r : Bool) → Ok mu ≡ input_hash H tr input
    → IsTrue r ↔ accepts mu → IsTrue r ↔ (input_fault input ≡ None) × accepts (representative H tr input)
verified_input H tr mu input accepts r e verdict =
    let given = given_input H tr tr mu input refl e in
    (λ t. (given.0, subst accepts given.1 (verdict.0 t)), λ v. verdict.1 (subst accepts (sym given.1) v.1))

-- an input of which there is no mu is rejected
pub refused_input : (H : List ℕ → List ℕ) (tr : List ℕ) (input : Input) (why : Fault) → Err why ≡ input_hash H tr input → input_fault input ≡ None → ⊥
refused_input H tr input why e none =
    let hash : Result (List ℕ) Fault = Ok (representative H tr input) in
    let given : Err why ≡ hash = rw none at e in
    absurd cc

-- what is signed of an input is accepted, where what is signed of a hash is
pub signed_input : (H : List ℕ → List ℕ) (tr own : List ℕ) (input : Input) (signs : List ℕ → Result (List ℕ) Fault) (accepts : List ℕ → Type 0) (signature : List ℕ) → tr ≡ own
    → ((mu : List ℕ) → signs mu ≡ Ok signature → accepts mu) → refused_or (input_fault input) (signs (representative H tr input)) ≡ Ok signature
    → (input_fault input ≡ None) × accepts (representative H own input)
signed_input H tr own input signs accepts signature same law made =
    let mu = representative H tr input in
    let both = not_refused (input_fault input) (signs mu) signature made in
    (both.0, subst (λ t. accepts (representative H t input)) same (law mu both.1))

-- a call that draws from a generator which gives a request for 32 bytes these bytes, and no others, answers as over them
pub drawn_seed : {S A : Type 0} (fault : Option Fault) (gives : S → ℕ → List ℕ → S → Type 0) (refuses : S → ℕ → S → Type 0) (before after : S) (refusal : Fault) (seed : List ℕ)
    (answer : List ℕ → Result A Fault) (result : Result A Fault) → ((bytes : List ℕ) → gives before 32 bytes after → bytes ≡ seed) → (refuses before 32 after → ⊥)
    → ((f : Fault) → fault ≡ Some f → answer seed ≡ Err f) → DrawsUnless fault gives refuses before after refusal answer result → result ≡ answer seed
drawn_seed None gives refuses before after refusal seed answer result one never first (inl (bytes, given, size, is)) = is ∙ ap answer (one bytes given)
drawn_seed None gives refuses before after refusal seed answer result one never first (inr (refused, is)) = absurd (never refused)
drawn_seed (Some f) gives refuses before after refusal seed answer result one never first (same, is) = is ∙ sym (first f refl)
