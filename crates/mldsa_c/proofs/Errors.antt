-- What a status other than 0 leaves of the arrays that a call writes, and the status of a digest.
use Rattle.std.proofs.Common.{◌≡◌, ◌≢◌, ◌<◌, ◌≤◌, ℕ, List, Option, Some, None, refl, sym, ◌∙◌, inl, inr, arith, length, ◌⊎◌}
use Rattle.std.specs.Prelude.{◌↔◌, MatchOption}
use Rattle.std.proofs.lemmas.Bool.{cases_lt}
use Rattle.fips204.specs.Framing.{Input}
use Rattle.fips204.specs.ParameterSets.{ParameterSet}
use Rattle.fips204_base.specs.declared.fault.Fault.{Fault}
use Rattle.fips204_base.specs.declared.fault.Fault.TheVariants.{DigestLength}
use Rattle.fips204_shake.specs.Bytes as bytes
use Rattle.fips204_shake.specs.Errors.{ErrorsLeave}
use Rattle.fips204_shake.specs.Prepared as prepared
use Rattle.fips204_shake.specs.Fronts.{shake256_front, shake128_front}
use Rattle.shake.specs.State.{CanBeSaved, saved_count}
use Rattle.mldsa_c.specs.Calls.{SignAnswers}
use Rattle.mldsa_c.specs.Pieces.{Keeps, Begins, IfState}
use Rattle.mldsa_c.specs.Prepared.{SignPreparedAnswers}
use Rattle.mldsa_c.specs.Numbers.{status_of}
use Rattle.mldsa_c.proofs.OfFaults.{not_done}
use Rattle.mldsa_c.proofs.ByStatus.{either, failed}

module _ (p : ParameterSet) (law : ErrorsLeave p shake256_front shake128_front) (key : List ℕ) (input : Input) (random old new : List ℕ) (status : ℕ) (differ : status ≢ 0) where
  pub signature_left : SignAnswers p key input random old new status → new ≡ old
  signature_left = either 32 random (failed (bytes.Signs p shake256_front shake128_front key random input old new) status (law.sign key random input old new) differ) (λ (same, _). same)

  pub prepared_signature_left : SignPreparedAnswers p key input random old new status → new ≡ old
  prepared_signature_left =
      either 32 random (failed (prepared.SignsPrepared p shake256_front key random input old new) status (law.sign_prepared key random input old new) differ) (λ (same, _). same)

pub begun_left : (wanted : ℕ) (key tr context old new : List ℕ) (status : ℕ) → status ≢ 0 → Begins wanted key tr context old new status → new ≡ old
begun_left wanted key tr context old new status differ = either 337 old (either wanted key of (λ (same, _). same)) (λ (same, _). same)
  where
    of : {P : Type 0} → (((length context ≤ 255) → P × (status ≡ 0)) × ((255 < length context) → Keeps old new status 4)) → new ≡ old
    of both = elim (cases_lt 255 (length context)) [
      | inl long ↦ (both.1 long).0
      | inr short ↦ absurd (differ (both.0 short).1)
    ]

-- whether a hasher can have a state is decided
can_be : (state : List ℕ) → CanBeSaved 136 state ⊎ ¬ (CanBeSaved 136 state)
can_be state = elim (cases_lt 0 (saved_count 136 state)) [
  | inl some ↦ elim (cases_lt 136 (saved_count 136 state)) [
    | inl past ↦ inr (λ can. omega (arith, past, can.1))
    | inr within ↦ inl (some, within)
  ]
  | inr none ↦ inr (λ can. omega (arith, none, can.0))
]

pub state_left : (state old new : List ℕ) (status : ℕ) (P : Type 0) → status ≢ 0 → IfState state (P × (status ≡ 0)) (Keeps old new status) → new ≡ old
state_left state old new status P differ = either 337 state of (λ (same, _). same)
  where
    of : ((CanBeSaved 136 state → P × (status ≡ 0)) × (¬ (CanBeSaved 136 state) → Keeps old new status 13)) → new ≡ old
    of both = elim (can_be state) [
      | inl can ↦ absurd (differ (both.0 can).1)
      | inr never ↦ (both.1 never).0
    ]

pub digest_told : (fault : Option Fault) (status : ℕ) → MatchOption fault (status ≡ 0) (λ why. status ≡ status_of why)
    → ((status ≡ 0) ↔ (fault ≡ None)) × (fault ≡ Some DigestLength → status ≡ 9)
digest_told None status is = ((λ _. refl, λ _. is), λ e. absurd cc)
digest_told (Some why) status is = ((λ zero. absurd (not_done why (sym zero ∙ is)), λ e. absurd cc), λ e. is ∙ same why e)
  where
    same : (why : Fault) → Path (Option Fault) (Some why) (Some DigestLength) → status_of why ≡ 9
    same why e = cc
