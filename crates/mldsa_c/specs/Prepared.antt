-- What the exported calls with prepared keys return, over SHAKE256 and SHAKE128. A last status is the result.
use Rattle.std.specs.Prelude.{◌≡◌, ℕ, List}
use Rattle.fips204.specs.Framing.{Input, represented}
use Rattle.fips204.specs.ParameterSets.{ParameterSet}
use Rattle.fips204_shake.specs.Prepared as bytes
use Rattle.fips204_shake.specs.Fronts.{shake256_front, shake128_front}
use Rattle.mldsa_c.specs.Calls.{Done, Told, IfSized}

-- prepare_public_key and prepare_private_key
abbrev pub PreparePublicKeyAnswers : ParameterSet → List ℕ → List ℕ → List ℕ → ℕ → Type 0
PreparePublicKeyAnswers p key old new status = Done (bytes.PreparesPublic p shake256_front shake128_front key old new) status

abbrev pub PreparePrivateKeyAnswers : ParameterSet → List ℕ → List ℕ → List ℕ → ℕ → Type 0
PreparePrivateKeyAnswers p key old new status = Done (bytes.PreparesPrivate p shake128_front key old new) status

-- verify_prepared and hash_verify_prepared
abbrev pub VerifyPreparedAnswers : ParameterSet → List ℕ → Input → List ℕ → ℕ → Type 0
VerifyPreparedAnswers p key input signature status = Told (bytes.JudgesPrepared p shake256_front key input signature) status

-- verify_mu_prepared, with 64 bytes of mu
abbrev pub VerifyMuPreparedAnswers : ParameterSet → List ℕ → List ℕ → List ℕ → ℕ → Type 0
VerifyMuPreparedAnswers p key mu signature status = IfSized 64 mu (VerifyPreparedAnswers p key (represented mu) signature status) (status ≡ 3)

-- sign_prepared and hash_sign_prepared, with 32 random bytes
abbrev pub SignPreparedAnswers : ParameterSet → List ℕ → Input → List ℕ → List ℕ → List ℕ → ℕ → Type 0
SignPreparedAnswers p key input random old new status =
    IfSized 32 random (Done (bytes.SignsPrepared p shake256_front key random input old new) status) ((new ≡ old) × (status ≡ 3))

-- sign_mu_prepared, with 64 bytes of mu
abbrev pub SignMuPreparedAnswers : ParameterSet → List ℕ → List ℕ → List ℕ → List ℕ → List ℕ → ℕ → Type 0
SignMuPreparedAnswers p key mu random old new status = IfSized 64 mu (SignPreparedAnswers p key (represented mu) random old new status) ((new ≡ old) × (status ≡ 3))
