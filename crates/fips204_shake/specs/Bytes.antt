-- What the calls do with arrays of any length (FIPS 204), over XOFs H and G. A last result is what the call returns.
use Rattle.std.specs.Prelude.{◌≡◌, ◌↔◌, ℕ, Bool, IsTrue, MatchBool, length, nat_eq, Result, Ok, Err, MatchResult, ⊤}
use Rattle.fips204_base.specs.declared.fault.Fault.{Fault}
use Rattle.fips204_base.specs.Encodings.{PublicParts, PrivateParts, IsPublicKeyOf, public_key_bytes, private_key_bytes}
use Rattle.fips204_base.specs.Streams.{Bytes, XOF}
use Rattle.fips204.specs.Completeness.{TellsPair}
use Rattle.fips204.specs.Framing.{Input}
use Rattle.fips204.specs.Keys.{DecodesPrivate, TellsWhole}
use Rattle.fips204.specs.ParameterSets.{ParameterSet, public_key_length, private_key_length, signature_length}
use Rattle.fips204.specs.Refusals.{generated, derived, sign_input, VerifiesInput}
use Rattle.fips204_shake.specs.declared.bytes.refusal.Buffer.{Buffer}
use Rattle.fips204_shake.specs.declared.bytes.refusal.Buffer.TheVariants.{PublicKey, PrivateKey, Signature}
use Rattle.fips204_shake.specs.declared.bytes.refusal.Refusal.{Refusal}
use Rattle.fips204_shake.specs.declared.bytes.refusal.Refusal.TheVariants.{Length, Library}

-- an array has the wanted length, or is rejected
abbrev pub IfSized : ℕ → Buffer → Bytes → Type 0 → (Refusal → Type 0) → Type 0
IfSized wanted which bytes fits refuses = MatchBool (nat_eq (length bytes) wanted) fits (refuses (Length which))

-- an array that would be written is as it was
abbrev pub Leaves : Bytes → Bytes → Result ⊤ Refusal → Refusal → Type 0
Leaves old new answer why = (new ≡ old) × (answer ≡ Err why)

-- an array is written: it has the bytes of what was made; or it is as it was, and the result says why
abbrev pub Writes : {A : Type 0} → (A → Bytes) → Result A Fault → Bytes → Bytes → Result ⊤ Refusal → Type 0
Writes bytes_of made old new answer =
    MatchResult made (λ value. (new ≡ bytes_of value) × (answer ≡ Ok tt)) (λ fault. Leaves old new answer (Library fault))

-- a question has this result
abbrev pub Tells : Result Bool Fault → Result Bool Refusal → Type 0
Tells told answer = MatchResult told (λ yes. answer ≡ Ok yes) (λ fault. answer ≡ Err (Library fault))

abbrev pub bytes_of_public : PublicParts → Bytes
bytes_of_public pk = public_key_bytes pk.rho pk.t1

-- the private key that has these bytes is used, or an error where no key has them
abbrev pub WithPrivate : ParameterSet → Bytes → (PrivateParts → Type 0) → (Refusal → Type 0) → Type 0
WithPrivate p key uses refuses = (decoded : Result PrivateParts Fault) × DecodesPrivate p.eta p.k p.l key decoded
    × MatchResult decoded uses (λ fault. refuses (Library fault))

-- keygen: the bytes of both keys of the seed
abbrev pub WritesPair : ParameterSet → XOF → XOF → Bytes → Bytes → Bytes → Bytes → Bytes → Result ⊤ Refusal → Type 0
WritesPair p H G seed public public' private private' answer =
    MatchResult (generated p H G seed)
    (λ pair. (public' ≡ bytes_of_public pair.0) × (private' ≡ private_key_bytes p.eta pair.1) × (answer ≡ Ok tt))
    (λ fault. (public' ≡ public) × Leaves private private' answer (Library fault))

abbrev pub Generates : ParameterSet → XOF → XOF → Bytes → Bytes → Bytes → Bytes → Bytes → Result ⊤ Refusal → Type 0
Generates p H G seed public public' private private' answer =
    let refuses : Refusal → Type 0 = λ why. (public' ≡ public) × Leaves private private' answer why in
    IfSized (public_key_length p) PublicKey public (IfSized (private_key_length p) PrivateKey private
    (WritesPair p H G seed public public' private private' answer) refuses) refuses

-- sign: the signature of an input that the private key makes
abbrev pub WritesSignature : ParameterSet → XOF → XOF → Bytes → Bytes → Input → Bytes → Bytes → Result ⊤ Refusal → Type 0
WritesSignature p H G key rnd input old new answer =
    WithPrivate p key (λ sk. Writes (λ signature. signature) (sign_input p H G sk rnd input) old new answer) (Leaves old new answer)

abbrev pub Signs : ParameterSet → XOF → XOF → Bytes → Bytes → Input → Bytes → Bytes → Result ⊤ Refusal → Type 0
Signs p H G key rnd input old new answer =
    IfSized (private_key_length p) PrivateKey key (IfSized (signature_length p) Signature old
    (WritesSignature p H G key rnd input old new answer) (Leaves old new answer)) (Leaves old new answer)

-- verify: whether the public key that has these bytes accepts the signature of an input
abbrev pub TellsVerdict : ParameterSet → XOF → XOF → Bytes → Input → Bytes → Result Bool Refusal → Type 0
TellsVerdict p H G key input signature answer = (pk : PublicParts) × IsPublicKeyOf H p.k key pk
    × ((verdict : Bool) × (IsTrue verdict ↔ VerifiesInput p H G pk signature input) × (answer ≡ Ok verdict))

abbrev pub Judges : ParameterSet → XOF → XOF → Bytes → Input → Bytes → Result Bool Refusal → Type 0
Judges p H G key input signature answer =
    IfSized (public_key_length p) PublicKey key (IfSized (signature_length p) Signature signature
    (TellsVerdict p H G key input signature answer) (λ why. answer ≡ Err why)) (λ why. answer ≡ Err why)

-- public_key: the bytes of the public key that belongs to the private key
abbrev pub WritesPublic : ParameterSet → XOF → Bytes → Bytes → Bytes → Result ⊤ Refusal → Type 0
WritesPublic p G key old new answer = WithPrivate p key (λ sk. Writes bytes_of_public (derived p G sk) old new answer) (Leaves old new answer)

abbrev pub Derives : ParameterSet → XOF → Bytes → Bytes → Bytes → Result ⊤ Refusal → Type 0
Derives p G key old new answer =
    IfSized (private_key_length p) PrivateKey key (IfSized (public_key_length p) PublicKey old
    (WritesPublic p G key old new answer) (Leaves old new answer)) (Leaves old new answer)

-- a call that asks of a private key alone
abbrev pub AsksPrivate : {A : Type 0} → ParameterSet → Bytes → (PrivateParts → Type 0) → Result A Refusal → Type 0
AsksPrivate p key uses answer =
    IfSized (private_key_length p) PrivateKey key (WithPrivate p key uses (λ why. answer ≡ Err why)) (λ why. answer ≡ Err why)

-- check_private_key, is_whole and is_pair
abbrev pub Checks : ParameterSet → Bytes → Result ⊤ Refusal → Type 0
Checks p key answer = AsksPrivate p key (λ sk. answer ≡ Ok tt) answer

abbrev pub ChecksWholeness : ParameterSet → XOF → Bytes → Result Bool Refusal → Type 0
ChecksWholeness p G key answer = AsksPrivate p key (λ sk. (told : Result Bool Fault) × TellsWhole p G sk told × Tells told answer) answer

abbrev pub ChecksPair : ParameterSet → XOF → XOF → Bytes → Result Bool Refusal → Type 0
ChecksPair p H G key answer = AsksPrivate p key (λ sk. (told : Result Bool Fault) × TellsPair p H G sk told × Tells told answer) answer
