-- What a result over bytes was, by its status; and what calls return for keys that belong together.
use Rattle.std.proofs.Common.{◌≡◌, ◌≢◌, ◌≤◌, ℕ, Bool, true, false, List, length, Result, Ok, Err, refl, sym, ap, ◌∙◌, arith, subst, inl, inr}
use Rattle.std.proofs.lemmas.Bool.Decides.{eqb_tells}
use Rattle.std.specs.Prelude.{⊤}
use Rattle.fips204.specs.Framing.{Input}
use Rattle.fips204.specs.ParameterSets.{ParameterSet, IsSet}
use Rattle.fips204_shake.specs.Bytes as bytes
use Rattle.fips204_shake.specs.Pairs as pairs
use Rattle.fips204_shake.specs.declared.bytes.refusal.Refusal.{Refusal}
use Rattle.fips204_shake.specs.declared.bytes.refusal.Refusal.TheVariants.{Length, Library, NotPrepared}
use Rattle.fips204_shake.specs.Fronts.{shake256_front, shake128_front, length-shake256_front}
use Rattle.mldsa_c.specs.Calls.{Done, Told, IfSized, SignAnswers, VerifyAnswers, ArePair}
use Rattle.mldsa_c.specs.Statuses.{done_status, answer_status}
use Rattle.mldsa_c.proofs.OfFaults.{not_done, not_one}

-- no error has the status of success
done : (answer : Result ⊤ Refusal) → 0 ≡ done_status answer → answer ≡ Ok tt
done (Ok tt) e = refl
done (Err (Length which)) e = absurd cc
done (Err (Library fault)) e = absurd (not_done fault e)
done (Err NotPrepared) e = absurd cc

-- what a call that is done returns over bytes
pub does : (says : Result ⊤ Refusal → Type 0) → Done says 0 → says (Ok tt)
does says (answer, answered, is) = subst says (done answer is) answered

-- the status of yes is of no other result
yes : (answer : Result Bool Refusal) → 0 ≡ answer_status answer → answer ≡ Ok true
yes (Ok true) e = refl
yes (Ok false) e = absurd cc
yes (Err (Length which)) e = absurd cc
yes (Err (Library fault)) e = absurd (not_done fault e)
yes (Err NotPrepared) e = absurd cc

-- no question has the status 1
pub told_not_one : (says : Result Bool Refusal → Type 0) (status : ℕ) → Told says status → status ≢ 1
told_not_one says status (Ok true, answered, is) = λ one. absurd cc
told_not_one says status (Ok false, answered, is) = λ one. absurd cc
told_not_one says status (Err (Length which), answered, is) = λ one. absurd cc
told_not_one says status (Err (Library fault), answered, is) = λ one. absurd (not_one fault (sym one ∙ is))
told_not_one says status (Err NotPrepared, answered, is) = λ one. absurd cc

-- what a question whose status is yes returns over bytes
pub said : (says : Result Bool Refusal → Type 0) → Told says 0 → says (Ok true)
said says (answer, answered, is) = subst says (yes answer is) answered

-- what follows of an error, where the status is another than 0
pub failed : {Follows : Type 0} (says : Result ⊤ Refusal → Type 0) (status : ℕ) → ((why : Refusal) → says (Err why) → Follows) → status ≢ 0 → Done says status → Follows
failed says status f differ (Ok tt, answered, is) = absurd (differ is)
failed says status f differ (Err why, answered, is) = f why answered

-- what follows whether an array has its length or not
pub either : {P Q R : Type 0} (wanted : ℕ) (bytes : List ℕ) → (P → R) → (Q → R) → IfSized wanted bytes P Q → R
either wanted bytes f g both = elim (eqb_tells (length bytes) wanted) [
  | inl (_, same) ↦ f (both.0 same)
  | inr (_, differ) ↦ g (both.1 differ)
]

-- an array that isn't rejected has its length
pub fits : {P Q : Type 0} (wanted : ℕ) (bytes : List ℕ) → IfSized wanted bytes P Q → ¬ Q → (length bytes ≡ wanted) × P
fits wanted bytes both never = elim (eqb_tells (length bytes) wanted) [
  | inl (_, same) ↦ (same, both.0 same)
  | inr (_, differ) ↦ absurd (never (both.1 differ))
]

pub sized : (wanted : ℕ) (bytes : List ℕ) {P Q : Type 0} → IfSized wanted bytes P Q → ¬ Q → P
sized wanted bytes {P} {Q} both never = (fits {P = P} {Q = Q} wanted bytes both never).1

signed : (p : ParameterSet) (key : List ℕ) (input : Input) (random old new : List ℕ) → SignAnswers p key input random old new 0
    → bytes.Signs p shake256_front shake128_front key random input old new (Ok tt)
signed p key input random old new signs =
    does (bytes.Signs p shake256_front shake128_front key random input old new) (sized 32 random signs (λ (_, two). absurd cc))

pub belong : ((p : ParameterSet) (H G : List ℕ → List ℕ) → IsSet p → ((x : List ℕ) → 4096 ≤ length (H x)) → pairs.PairsBelong p H G)
    → (p : ParameterSet) → IsSet p → (public private : List ℕ) → ArePair p public private → pairs.BelongTogether p shake256_front shake128_front public private
belong law p known public private are =
    let all = law p shake256_front shake128_front known (λ x. omega (arith, length-shake256_front x)) in
    elim are [
      | inl (seed, old, old', keys) ↦
          all.generated seed old public old' private (does (bytes.Generates p shake256_front shake128_front seed old public old' private) (sized 32 seed keys (λ (_, _, two). absurd cc)))
      | inr (old, asked, derives) ↦
          all.checked private old public (said (bytes.ChecksPair p shake256_front shake128_front private) asked) (does (bytes.Derives p shake128_front private old public) derives)
    ]

pub accepted : (p : ParameterSet) (public private : List ℕ) → pairs.BelongTogether p shake256_front shake128_front public private
    → (input : Input) (random old signature : List ℕ) (status : ℕ) → SignAnswers p private input random old signature 0
    → VerifyAnswers p public input signature status → status ≡ 0
accepted p public private pair input random old signature status signs (answer, judges, is) =
    is ∙ ap answer_status (pair.accepted random input old signature answer (signed p private input random old signature signs) judges)
