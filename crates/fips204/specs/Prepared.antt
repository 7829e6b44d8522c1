-- Keys that are prepared once: a key with the matrix of its seed, and whole calls with the kept matrix (FIPS 204, Algorithms 2 to 8).
use Rattle.std.specs.Prelude.{◌≡◌, ◌<◌, ◌↔◌, ℕ, List, [], length, slice_index_or, Bool, false, IsTrue, None, Result, Ok, Err, ok_or, option_map}
use Rattle.fips204_base.specs.declared.fault.Fault.{Fault}
use Rattle.fips204_base.specs.declared.fault.Fault.TheVariants.{SamplingLimit}
use Rattle.fips204_base.specs.declared.types.T.{T}
use Rattle.fips204_base.specs.Sampling.{sampled_matrix}
use Rattle.fips204.specs.ParameterSets.{ParameterSet}
use Rattle.fips204_base.specs.Encodings.{PublicParts, PrivateParts}
use Rattle.fips204_base.specs.Streams.{Bytes, XOF}
use Rattle.fips204.specs.Keys.{high_part, low_part, IsWhole}
use Rattle.fips204.specs.Framing.{Input, plain, representative}
use Rattle.fips204.specs.Signing.{sign_with}
use Rattle.fips204.specs.Acceptance.{Accepts}
use Rattle.fips204.specs.Completeness.{AcceptedIfWhole}
use Rattle.fips204.specs.Refusals.{derived, sign_input, refused_or, input_fault, VerifiesInput}

-- a key's parts and a matrix
pub record PreparedPrivate : Type 0 where
  pub parts : PrivateParts
  pub matrix : List (List T)

pub record PreparedPublic : Type 0 where
  pub parts : PublicParts
  pub matrix : List (List T)

-- preparing a key: its parts with the matrix of its seed, or an error where there is none
abbrev pub prepared_private : ParameterSet → XOF → PrivateParts → Result PreparedPrivate Fault
prepared_private p G sk = ok_or (option_map (λ a. record { parts = sk; matrix = a }) (sampled_matrix G sk.rho p.k p.l)) SamplingLimit

abbrev pub prepared_public : ParameterSet → XOF → PublicParts → Result PreparedPublic Fault
prepared_public p G pk = ok_or (option_map (λ a. record { parts = pk; matrix = a }) (sampled_matrix G pk.rho p.k p.l)) SamplingLimit

-- signing and verifying an input with the kept matrix
abbrev pub sign_prepared : ParameterSet → XOF → PreparedPrivate → Bytes → Input → Result Bytes Fault
sign_prepared p H sk rnd input = refused_or (input_fault input) (sign_with p H sk.matrix sk.parts (representative H sk.parts.tr input) rnd)

abbrev pub VerifiesPrepared : ParameterSet → XOF → PreparedPublic → Bytes → Input → Type 0
VerifiesPrepared p H pk signature input = (input_fault input ≡ None) × Accepts p H pk.matrix pk.parts.t1 (representative H pk.parts.tr input) signature

-- random bytes and a result for each message: what signs gives for these and the message
abbrev pub IsEachSigned : (Bytes → Bytes → Result Bytes Fault) → List Bytes → List Bytes → List (Result Bytes Fault) → Type 0
IsEachSigned signs seeds messages answers = (length seeds ≡ length messages) × (length answers ≡ length messages)
    × ((i : ℕ) → i < length messages → slice_index_or answers i (Err SamplingLimit) ≡ signs (slice_index_or seeds i []) (slice_index_or messages i []))

-- a signature and a result for each message: true if and only if it is accepted with the signature
abbrev pub IsEachJudged : (Bytes → Bytes → Type 0) → List Bytes → List Bytes → List Bool → Type 0
IsEachJudged accepts messages signatures answers = (length signatures ≡ length messages) × (length answers ≡ length messages)
    × ((i : ℕ) → i < length messages → IsTrue (slice_index_or answers i false) ↔ accepts (slice_index_or messages i []) (slice_index_or signatures i []))

-- a consistent prepared private key: its t0 comes of A s1 + s2 by power2round; the public key that belongs to it has the high part
abbrev pub IsWholePrepared : ParameterSet → PreparedPrivate → Type 0
IsWholePrepared p sk = sk.parts.t0 ≡ low_part p sk.matrix sk.parts.s1 sk.parts.s2

abbrev pub public_of_prepared : ParameterSet → PreparedPrivate → PreparedPublic
public_of_prepared p sk = record { parts = record { rho = sk.parts.rho; tr = sk.parts.tr; t1 = high_part p sk.matrix sk.parts.s1 sk.parts.s2 }; matrix = sk.matrix }

-- what signing an input returns with a consistent prepared key is accepted by the public key that belongs to it
abbrev pub AcceptedIfWholePrepared : ParameterSet → XOF → PreparedPrivate → Input → Result Bytes Fault → Type 0
AcceptedIfWholePrepared p H sk input answer =
    AcceptedIfWhole (IsWholePrepared p sk) (Ok (public_of_prepared p sk)) (λ pk signature. VerifiesPrepared p H pk signature input) answer

-- a prepared key returns what its plain key does, is consistent if and only if that is, and its public key is the derived one, prepared
pub record PreparedAnswersAsPlain (p : ParameterSet) (H G : XOF) : Type 0 where
  pub sign_inputs : (sk : PrivateParts) (prepared : PreparedPrivate) (rnd : Bytes) (input : Input) → prepared_private p G sk ≡ Ok prepared
      → sign_prepared p H prepared rnd input ≡ sign_input p H G sk rnd input
  pub sign_lists : (sk : PrivateParts) (prepared : PreparedPrivate) (seeds messages : List Bytes) (context : Bytes) (answers : List (Result Bytes Fault))
      → prepared_private p G sk ≡ Ok prepared → IsEachSigned (λ rnd message. sign_prepared p H prepared rnd (plain message context)) seeds messages answers
      → IsEachSigned (λ rnd message. sign_input p H G sk rnd (plain message context)) seeds messages answers
  pub verify_inputs : (pk : PublicParts) (prepared : PreparedPublic) (signature : Bytes) (input : Input) → prepared_public p G pk ≡ Ok prepared
      → VerifiesPrepared p H prepared signature input ↔ VerifiesInput p H G pk signature input
  pub verify_lists : (pk : PublicParts) (prepared : PreparedPublic) (messages signatures : List Bytes) (context : Bytes) (answers : List Bool)
      → prepared_public p G pk ≡ Ok prepared → IsEachJudged (λ message signature. VerifiesPrepared p H prepared signature (plain message context)) messages signatures answers
      → IsEachJudged (λ message signature. VerifiesInput p H G pk signature (plain message context)) messages signatures answers
  pub whole : (sk : PrivateParts) (prepared : PreparedPrivate) → prepared_private p G sk ≡ Ok prepared → IsWholePrepared p prepared ↔ IsWhole p G sk
  pub public_key : (sk : PrivateParts) (prepared : PreparedPrivate) (pk : PublicParts) → prepared_private p G sk ≡ Ok prepared → derived p G sk ≡ Ok pk
      → prepared_public p G pk ≡ Ok (public_of_prepared p prepared)
