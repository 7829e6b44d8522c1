-- Signing and verifying mu of a message or a digest, since the calls over bytes do so.
use Rattle.std.proofs.Common.{◌≡◌, ℕ, Bool, true, IsTrue, List, ◌++◌, length, take, None, Result, Ok, arith}
use Rattle.std.specs.Prelude.{◌↔◌, ⊤}
use Rattle.std.proofs.lemmas.List.{length-take-le}
use Rattle.fips204.specs.Framing.{Input, plain, hashed, framed, represented, frame, representative}
use Rattle.fips204.specs.ParameterSets.{ParameterSet}
use Rattle.fips204.specs.Refusals.{input_fault}
use Rattle.fips204.specs.SchemeLaws.{has_context}
use Rattle.fips204_shake.specs.Bytes as bytes
use Rattle.fips204_shake.specs.Mu as mus
use Rattle.fips204_shake.specs.declared.bytes.refusal.Refusal.{Refusal}
use Rattle.fips204_shake.specs.Fronts.{shake256_front, shake128_front, length-shake256_front}
use Rattle.mldsa_c.specs.Calls.{IfSized, SignAnswers, SignMuAnswers, VerifyAnswers, VerifyMuAnswers}
use Rattle.mldsa_c.proofs.ByStatus.{said, sized}

-- mu of a message or a digest has 64 bytes
cut : (x : List ℕ) → length (take 64 (shake256_front x)) ≡ 64
cut x = length-take-le 64 (shake256_front x) (omega (arith, length-shake256_front x))

long : (hash : List ℕ) (input : Input) → IsTrue (has_context input) → length (representative shake256_front hash input) ≡ 64
long hash (plain message context) is = cut (hash ++ frame 0 context message)
long hash (hashed digest context oid) is = cut (hash ++ frame 1 context (oid ++ digest))
long hash (framed m) never = absurd cc
long hash (represented mu) never = absurd cc

-- an array of the right length makes no difference
fitting : {P P' Q : Type 0} (wanted : ℕ) (bytes : List ℕ) → length bytes ≡ wanted → P ↔ P' → IfSized wanted bytes P Q ↔ P'
fitting wanted bytes same both = (λ sized. both.0 (sized.0 same), λ done. (λ _. both.1 done, λ differ. absurd (differ same)))

module _ (p : ParameterSet) where
  pub mu_signed : mus.MuStandsForInput p shake256_front shake128_front → (key : List ℕ) (input : Input) (random old new : List ℕ) (status : ℕ)
      → IsTrue (has_context input) → input_fault input ≡ None
      → SignMuAnswers p key (representative shake256_front (mus.tr_of_private key) input) random old new status ↔ SignAnswers p key input random old new status
  mu_signed law key input random old new status context none =
      let mu = representative shake256_front (mus.tr_of_private key) input in
      let same = λ (answer : Result ⊤ Refusal). law.signed key random input old new answer none in
      let both : SignAnswers p key (represented mu) random old new status ↔ SignAnswers p key input random old new status = (
        λ signs. (λ fits. let (answer, writes, is) = signs.0 fits in (answer, (same answer).0 writes, is), signs.1),
        λ signs. (λ fits. let (answer, writes, is) = signs.0 fits in (answer, (same answer).1 writes, is), signs.1),
      ) in
      fitting 64 mu (long (mus.tr_of_private key) input context) both

  pub mu_judged : mus.MuStandsForInput p shake256_front shake128_front → (key : List ℕ) (input : Input) (signature : List ℕ) (status : ℕ)
      → IsTrue (has_context input) → input_fault input ≡ None
      → VerifyMuAnswers p key (representative shake256_front (mus.tr_of_public shake256_front key) input) signature status ↔ VerifyAnswers p key input signature status
  mu_judged law key input signature status context none =
      let mu = representative shake256_front (mus.tr_of_public shake256_front key) input in
      let same = λ (answer : Result Bool Refusal). law.judged key input signature answer none in
      let both : VerifyAnswers p key (represented mu) signature status ↔ VerifyAnswers p key input signature status = (
        λ (answer, judges, is). (answer, (same answer).0 judges, is),
        λ (answer, judges, is). (answer, (same answer).1 judges, is),
      ) in
      fitting 64 mu (long (mus.tr_of_public shake256_front key) input context) both

-- what verifying says yes to, over bytes
pub verified : (p : ParameterSet) (key : List ℕ) (input : Input) (signature : List ℕ) → VerifyAnswers p key input signature 0
    → bytes.Judges p shake256_front shake128_front key input signature (Ok true)
verified p key input signature = said (bytes.Judges p shake256_front shake128_front key input signature)

pub verified_mu : (p : ParameterSet) (key mu signature : List ℕ) → VerifyMuAnswers p key mu signature 0
    → bytes.Judges p shake256_front shake128_front key (represented mu) signature (Ok true)
verified_mu p key mu signature judges = verified p key (represented mu) signature (sized 64 mu judges (λ two. absurd cc))
