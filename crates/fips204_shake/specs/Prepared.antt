-- What the calls with prepared keys do with arrays of any length, over XOFs H and G. A last result is what the call returns.
use Rattle.std.specs.Prelude.{◌≡◌, ◌↔◌, Bool, IsTrue, Option, MatchOption, Result, Ok, Err, ⊤}
use Rattle.fips204_base.specs.Encodings.{PublicParts, IsPublicKeyOf}
use Rattle.fips204_base.specs.Streams.{Bytes, XOF}
use Rattle.fips204.specs.Framing.{Input}
use Rattle.fips204.specs.ParameterSets.{ParameterSet, public_key_length, private_key_length, signature_length}
use Rattle.fips204.specs.Prepared.{prepared_public, prepared_private, sign_prepared, VerifiesPrepared}
use Rattle.fips204.specs.PreparedBytes.{Decodes, IsPreparedPublicOf, IsPreparedPrivateOf, prepared_public_bytes, prepared_private_bytes, prepared_public_length, prepared_private_length}
use Rattle.fips204_shake.specs.Bytes.{IfSized, Leaves, Writes, WithPrivate, Signs, Judges}
use Rattle.fips204_shake.specs.declared.bytes.refusal.Buffer.TheVariants.{PublicKey, PrivateKey, PreparedPublicKey, PreparedPrivateKey, Signature}
use Rattle.fips204_shake.specs.declared.bytes.refusal.Refusal.{Refusal}
use Rattle.fips204_shake.specs.declared.bytes.refusal.Refusal.TheVariants.{NotPrepared}

-- the prepared key that has these bytes is used, or an error where none has them
abbrev pub WithPrepared : {A : Type 0} → (A → Type 0) → (A → Type 0) → (Refusal → Type 0) → Type 0
WithPrepared {A} has uses refuses = (read : Option A) × Decodes has read × MatchOption read (refuses NotPrepared) uses

-- prepare_public_key: the bytes of the public key with the matrix of its seed
abbrev pub WritesPreparedPublic : ParameterSet → XOF → XOF → Bytes → Bytes → Bytes → Result ⊤ Refusal → Type 0
WritesPreparedPublic p H G key old new answer = (pk : PublicParts) × IsPublicKeyOf H p.k key pk × Writes prepared_public_bytes (prepared_public p G pk) old new answer

abbrev pub PreparesPublic : ParameterSet → XOF → XOF → Bytes → Bytes → Bytes → Result ⊤ Refusal → Type 0
PreparesPublic p H G key old new answer =
    IfSized (public_key_length p) PublicKey key (IfSized (prepared_public_length p) PreparedPublicKey old
    (WritesPreparedPublic p H G key old new answer) (Leaves old new answer)) (Leaves old new answer)

-- verify_prepared: whether the prepared public key that has these bytes accepts the signature of an input
abbrev pub TellsPreparedVerdict : ParameterSet → XOF → Bytes → Input → Bytes → Result Bool Refusal → Type 0
TellsPreparedVerdict p H key input signature answer =
    WithPrepared (IsPreparedPublicOf p.k p.l key)
    (λ pk. (verdict : Bool) × (IsTrue verdict ↔ VerifiesPrepared p H pk signature input) × (answer ≡ Ok verdict)) (λ why. answer ≡ Err why)

abbrev pub JudgesPrepared : ParameterSet → XOF → Bytes → Input → Bytes → Result Bool Refusal → Type 0
JudgesPrepared p H key input signature answer =
    IfSized (prepared_public_length p) PreparedPublicKey key (IfSized (signature_length p) Signature signature
    (TellsPreparedVerdict p H key input signature answer) (λ why. answer ≡ Err why)) (λ why. answer ≡ Err why)

-- prepare_private_key: the bytes of the private key with the matrix of its seed
abbrev pub WritesPreparedPrivate : ParameterSet → XOF → Bytes → Bytes → Bytes → Result ⊤ Refusal → Type 0
WritesPreparedPrivate p G key old new answer =
    WithPrivate p key (λ sk. Writes (λ prepared. prepared_private_bytes p.eta prepared) (prepared_private p G sk) old new answer) (Leaves old new answer)

abbrev pub PreparesPrivate : ParameterSet → XOF → Bytes → Bytes → Bytes → Result ⊤ Refusal → Type 0
PreparesPrivate p G key old new answer =
    IfSized (private_key_length p) PrivateKey key (IfSized (prepared_private_length p) PreparedPrivateKey old
    (WritesPreparedPrivate p G key old new answer) (Leaves old new answer)) (Leaves old new answer)

-- sign_prepared: the signature of an input that the prepared private key that has these bytes makes
abbrev pub WritesPreparedSignature : ParameterSet → XOF → Bytes → Bytes → Input → Bytes → Bytes → Result ⊤ Refusal → Type 0
WritesPreparedSignature p H key rnd input old new answer =
    WithPrepared (IsPreparedPrivateOf p.eta p.k p.l key) (λ sk. Writes (λ signature. signature) (sign_prepared p H sk rnd input) old new answer) (Leaves old new answer)

abbrev pub SignsPrepared : ParameterSet → XOF → Bytes → Bytes → Input → Bytes → Bytes → Result ⊤ Refusal → Type 0
SignsPrepared p H key rnd input old new answer =
    IfSized (prepared_private_length p) PreparedPrivateKey key (IfSized (signature_length p) Signature old
    (WritesPreparedSignature p H key rnd input old new answer) (Leaves old new answer)) (Leaves old new answer)

-- with the bytes that preparing a key has written, verifying and signing return what they return with the key, for every input; of
-- other bytes nothing more is stated than the results of the key and the matrix in them
pub record PreparedStandsForPlain (p : ParameterSet) (H G : XOF) : Type 0 where
  pub judged : (key old prepared : Bytes) (input : Input) (signature : Bytes) (answer : Result Bool Refusal)
      → PreparesPublic p H G key old prepared (Ok tt) → JudgesPrepared p H prepared input signature answer → Judges p H G key input signature answer
  pub signed : (key old prepared rnd : Bytes) (input : Input) (before after : Bytes) (answer : Result ⊤ Refusal)
      → PreparesPrivate p G key old prepared (Ok tt) → SignsPrepared p H prepared rnd input before after answer → Signs p H G key rnd input before after answer
