-- What is signed is accepted, and what makes two keys a pair (FIPS 204, Algorithms 1 to 8).
use Rattle.std.specs.Prelude.{◌≡◌, ◌≤◌, ◌↔◌, length, take, Bool, IsTrue, Result, Ok, Err, MatchResult}
use Rattle.fips204_base.specs.declared.fault.Fault.{Fault}
use Rattle.fips204_base.specs.Encodings.{PublicParts, PrivateParts, ArePublicParts, ArePrivateParts, IsPublicKeyOf, IsPrivateKeyOf, public_key_bytes, private_key_bytes}
use Rattle.fips204_base.specs.Streams.{Bytes, XOF}
use Rattle.fips204.specs.ParameterSets.{ParameterSet, IsSet}
use Rattle.fips204.specs.Keys.{IsWhole}
use Rattle.fips204.specs.Framing.{Input}
use Rattle.fips204.specs.Refusals.{generated, derived, sign_input, VerifiesInput}

-- the public key accepts what the private key signs, whatever the random bytes
abbrev pub AcceptsSigned : ParameterSet → XOF → XOF → PublicParts → PrivateParts → Type 0
AcceptsSigned p H G pk sk = (rnd signature : Bytes) (input : Input) → sign_input p H G sk rnd input ≡ Ok signature → VerifiesInput p H G pk signature input

-- what a signing call returns is accepted: where the private key is consistent, by the public key that is derived of it
abbrev pub AcceptedIfWhole : {P S : Type 0} → Type 0 → Result P Fault → (P → S → Type 0) → Result S Fault → Type 0
AcceptedIfWhole {P} {S} whole derives accepts answer = (pk : P) (signature : S) → whole → derives ≡ Ok pk → answer ≡ Ok signature → accepts pk signature

-- the same of signing an input with a plain key
abbrev pub AcceptedIfWholePlain : ParameterSet → XOF → XOF → PrivateParts → Input → Result Bytes Fault → Type 0
AcceptedIfWholePlain p H G sk input answer = AcceptedIfWhole (IsWhole p G sk) (derived p G sk) (λ pk signature. VerifiesInput p H G pk signature input) answer

-- decoding a key's bytes returns that key and nothing else
abbrev pub DecodesAlone : {K B : Type 0} → (B → Result K Fault → Type 0) → B → K → Type 0
DecodesAlone {K} {B} decodes bytes key = (answer : Result K Fault) → decodes bytes answer → answer ≡ Ok key

-- two keys are a pair: the private one is in range and consistent, the public one is derived of it, and each is all that its bytes decode to
pub record IsPair (p : ParameterSet) (H G : XOF) (pk : PublicParts) (sk : PrivateParts) : Type 0 where
  pub parts : ArePrivateParts p.eta p.k p.l sk
  pub whole : IsWhole p G sk
  pub derives : derived p G sk ≡ Ok pk
  pub public_decoded : (other : PublicParts) → IsPublicKeyOf H p.k (public_key_bytes pk.rho pk.t1) other ↔ (other ≡ pk)
  pub private_decoded : (other : PrivateParts) → IsPrivateKeyOf p.eta p.k p.l (private_key_bytes p.eta sk) other ↔ (other ≡ sk)

-- whether a private key and the public key that is derived of it are a pair; an error where no key is derived
abbrev pub TellsPair : ParameterSet → XOF → XOF → PrivateParts → Result Bool Fault → Type 0
TellsPair p H G sk answer = MatchResult answer (λ yes. (pk : PublicParts) × (derived p G sk ≡ Ok pk) × (IsTrue yes ↔ IsPair p H G pk sk))
    (λ fault. derived p G sk ≡ Err fault)

-- at each of the three sets, over any two XOFs: what a consistent private key signs is accepted by the public key derived of it, and they are
-- a pair where tr is the hash of that key's bytes; and keys that a seed generates are a pair, whose public key accepts what is signed
abbrev pub SignedIsAccepted : Type 0
SignedIsAccepted =
    (p : ParameterSet) (H G : XOF) (pk : PublicParts) (sk : PrivateParts) → IsSet p
    → ((x : Bytes) → 4096 ≤ length (H x))
    → (ArePrivateParts p.eta p.k p.l sk → IsWhole p G sk → derived p G sk ≡ Ok pk
    → AcceptsSigned p H G pk sk × (sk.tr ≡ take 64 (H (public_key_bytes pk.rho pk.t1)) → IsPair p H G pk sk))
    × ((xi : Bytes) → generated p H G xi ≡ Ok (pk, sk) → IsPair p H G pk sk × AcceptsSigned p H G pk sk)

-- keys in range are the same where their bytes are: two private keys, and two public keys with the same tr
pub record BytesTellKeys (p : ParameterSet) : Type 0 where
  pub private_keys : (first second : PrivateParts) → ArePrivateParts p.eta p.k p.l first → ArePrivateParts p.eta p.k p.l second
      → private_key_bytes p.eta first ≡ private_key_bytes p.eta second → first ≡ second
  pub public_keys : (first second : PublicParts) → ArePublicParts p.k first → ArePublicParts p.k second → first.tr ≡ second.tr
      → public_key_bytes first.rho first.t1 ≡ public_key_bytes second.rho second.t1 → first ≡ second
