-- What the exported calls return: the statuses of the calls over bytes, over SHAKE256 and SHAKE128. A last status is the result.
use Rattle.std.specs.Prelude.{◌≡◌, ◌≢◌, ◌⊎◌, ℕ, Bool, List, length, Result, MatchOption, ⊤}
use Rattle.fips204.specs.Framing.{Input, pre_hash_fault, represented}
use Rattle.fips204.specs.ParameterSets.{ParameterSet}
use Rattle.fips204_shake.specs.Bytes as bytes
use Rattle.fips204_shake.specs.declared.bytes.refusal.Refusal.{Refusal}
use Rattle.fips204_shake.specs.Fronts.{shake256_front, shake128_front}
use Rattle.mldsa_c.specs.Numbers.{status_of}
use Rattle.mldsa_c.specs.Statuses.{done_status, answer_status, accepted}

-- the status is that of what a call over bytes returns: of one that writes, and of a question
abbrev pub Done : (Result ⊤ Refusal → Type 0) → ℕ → Type 0
Done answers status = (answer : Result ⊤ Refusal) × answers answer × (status ≡ done_status answer)

abbrev pub Told : (Result Bool Refusal → Type 0) → ℕ → Type 0
Told answers status = (answer : Result Bool Refusal) × answers answer × (status ≡ answer_status answer)

-- an array has this many bytes, or the call returns an error
abbrev pub IfSized : ℕ → List ℕ → Type 0 → Type 0 → Type 0
IfSized wanted bytes fits refuses = ((length bytes ≡ wanted) → fits) × ((length bytes ≢ wanted) → refuses)

-- keygen, with a seed of 32 bytes
abbrev pub KeygenAnswers : ParameterSet → List ℕ → List ℕ → List ℕ → List ℕ → List ℕ → ℕ → Type 0
KeygenAnswers p seed public public' private private' status =
    IfSized 32 seed (Done (bytes.Generates p shake256_front shake128_front seed public public' private private') status)
    ((public' ≡ public) × (private' ≡ private) × (status ≡ 3))

-- sign and hash_sign, with 32 random bytes
abbrev pub SignAnswers : ParameterSet → List ℕ → Input → List ℕ → List ℕ → List ℕ → ℕ → Type 0
SignAnswers p key input random old new status =
    IfSized 32 random (Done (bytes.Signs p shake256_front shake128_front key random input old new) status) ((new ≡ old) × (status ≡ 3))

-- sign_mu, with 64 bytes of mu
abbrev pub SignMuAnswers : ParameterSet → List ℕ → List ℕ → List ℕ → List ℕ → List ℕ → ℕ → Type 0
SignMuAnswers p key mu random old new status = IfSized 64 mu (SignAnswers p key (represented mu) random old new status) ((new ≡ old) × (status ≡ 3))

-- verify and hash_verify
abbrev pub VerifyAnswers : ParameterSet → List ℕ → Input → List ℕ → ℕ → Type 0
VerifyAnswers p key input signature status = Told (bytes.Judges p shake256_front shake128_front key input signature) status

-- accepts: 1 if verify returns yes, and 0 if it returns anything else
abbrev pub AcceptsAnswers : ParameterSet → List ℕ → Input → List ℕ → ℕ → Type 0
AcceptsAnswers p key input signature answer = (status : ℕ) × VerifyAnswers p key input signature status × (answer ≡ accepted status)

-- verify_mu, with 64 bytes of mu
abbrev pub VerifyMuAnswers : ParameterSet → List ℕ → List ℕ → List ℕ → ℕ → Type 0
VerifyMuAnswers p key mu signature status = IfSized 64 mu (VerifyAnswers p key (represented mu) signature status) (status ≡ 3)

-- public_key, check_private_key, is_whole and is_pair
abbrev pub PublicKeyAnswers : ParameterSet → List ℕ → List ℕ → List ℕ → ℕ → Type 0
PublicKeyAnswers p key old new status = Done (bytes.Derives p shake128_front key old new) status

abbrev pub CheckPrivateKeyAnswers : ParameterSet → List ℕ → ℕ → Type 0
CheckPrivateKeyAnswers p key status = Done (bytes.Checks p key) status

abbrev pub IsWholeAnswers : ParameterSet → List ℕ → ℕ → Type 0
IsWholeAnswers p key status = Told (bytes.ChecksWholeness p shake128_front key) status

abbrev pub IsPairAnswers : ParameterSet → List ℕ → ℕ → Type 0
IsPairAnswers p key status = Told (bytes.ChecksPair p shake256_front shake128_front key) status

-- check_pre_hash: the first condition that a digest and its object identifier break, or none
abbrev pub CheckPreHashAnswers : List ℕ → List ℕ → ℕ → Type 0
CheckPreHashAnswers digest oid status = MatchOption (pre_hash_fault digest oid) (status ≡ 0) (λ fault. status ≡ status_of fault)

-- one call of keygen wrote both keys; or is_pair says yes of the private one, of which public_key wrote the public one
abbrev pub ArePair : ParameterSet → List ℕ → List ℕ → Type 0
ArePair p public private =
    ((seed old old' : List ℕ) × KeygenAnswers p seed old public old' private 0) ⊎ ((old : List ℕ) × IsPairAnswers p private 0 × PublicKeyAnswers p private old public 0)
