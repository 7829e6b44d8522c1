-- The calls with a prepared key return what those of their names do, since the calls over bytes do.
use Rattle.std.proofs.Common.{ℕ, List}
use Rattle.fips204.specs.Framing.{Input}
use Rattle.fips204.specs.ParameterSets.{ParameterSet}
use Rattle.fips204_shake.specs.Prepared as bytes
use Rattle.fips204_shake.specs.Fronts.{shake256_front, shake128_front}
use Rattle.mldsa_c.specs.Calls.{SignAnswers, VerifyAnswers}
use Rattle.mldsa_c.specs.Prepared.{PreparePublicKeyAnswers, PreparePrivateKeyAnswers, VerifyPreparedAnswers, SignPreparedAnswers}
use Rattle.mldsa_c.proofs.ByStatus.{does}

pub judged : (p : ParameterSet) → bytes.PreparedStandsForPlain p shake256_front shake128_front → (key old prepared : List ℕ) (input : Input)
    (signature : List ℕ) (status : ℕ) → PreparePublicKeyAnswers p key old prepared 0 → VerifyPreparedAnswers p prepared input signature status
    → VerifyAnswers p key input signature status
judged p law key old prepared input signature status prepares (answer, judges, is) =
    (answer, law.judged key old prepared input signature answer (does (bytes.PreparesPublic p shake256_front shake128_front key old prepared) prepares) judges, is)

pub signed : (p : ParameterSet) → bytes.PreparedStandsForPlain p shake256_front shake128_front → (key old prepared : List ℕ) (input : Input)
    (random before after : List ℕ) (status : ℕ) → PreparePrivateKeyAnswers p key old prepared 0
    → SignPreparedAnswers p prepared input random before after status → SignAnswers p key input random before after status
signed p law key old prepared input random before after status prepares signs = (
  λ long.
      let (answer, writes, is) = signs.0 long in
      (answer, law.signed key old prepared random input before after answer (does (bytes.PreparesPrivate p shake128_front key old prepared) prepares) writes, is),
  signs.1,
)
