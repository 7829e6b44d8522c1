-- What stays where the outputs of two XOFs are prefixes of longer ones.
use Rattle.std.specs.Prelude.{◌≡◌, ◌≢◌, ◌<◌, ◌≤◌, ◌-◌, ◌⊎◌, ◌↔◌, ℕ, List, take, Some, None, Result, Err}
use Rattle.fips204_base.specs.declared.fault.Fault.{Fault}
use Rattle.fips204_base.specs.declared.fault.Fault.TheVariants.{SamplingLimit}
use Rattle.fips204_base.specs.declared.types.R.{R}
use Rattle.fips204_base.specs.declared.types.T.{T}
use Rattle.fips204_base.specs.Encodings.{PublicParts, PrivateParts, IsPublicKeyOf, IsSignature}
use Rattle.fips204_base.specs.Residues.{vector_norm}
use Rattle.fips204_base.specs.Streams.{Bytes, XOF, counter_blocks, sha256_front, sha256_long_front, sha512_front, sha512_long_front, IsPrefix, ArePrefixes}
use Rattle.fips204_base.specs.Sampling.{matrix_entry, sampled_matrix, small_polynomial, challenge}
use Rattle.fips204.specs.ParameterSets.{ParameterSet, c_tilde_length, IsSet}
use Rattle.fips204.specs.Framing.{Input}
use Rattle.fips204.specs.Refusals.{generated, derived, input_fault, sign_input, VerifiesInput}
use Rattle.fips204.specs.Prepared.{prepared_private, prepared_public}

-- outputs in counter mode are prefixes of those with more blocks; so are those of the library's XOFs that differ in length alone
pub record CounterFrontsArePrefixes : Type 0 where
  pub blocks : (hash : Bytes → Bytes) (seed : Bytes) (n m : ℕ) → n ≤ m → IsPrefix (counter_blocks hash seed n) (counter_blocks hash seed m)
  pub sha256 : ArePrefixes sha256_front sha256_long_front
  pub sha512 : ArePrefixes sha512_front sha512_long_front

-- what a sampler gives over an output, it gives over the longer one
pub record SamplesStay (H G H' G' : XOF) : Type 0 where
  pub entries : (input : Bytes) (t : T) → matrix_entry (G input) ≡ Some t → matrix_entry (G' input) ≡ Some t
  pub matrices : (rho : Bytes) (k l : ℕ) (a : List (List T)) → sampled_matrix G rho k l ≡ Some a → sampled_matrix G' rho k l ≡ Some a
  pub small_polynomials : (eta : ℕ) (input : Bytes) (w : R) → small_polynomial eta (H input) ≡ Some w → small_polynomial eta (H' input) ≡ Some w
  pub challenges : (tau : ℕ) (input : Bytes) (c : R) → challenge tau (H input) ≡ Some c → challenge tau (H' input) ≡ Some c

-- a result stays, unless it is the error for a passed limit on sampling
abbrev pub Stays : {A : Type 0} → Result A Fault → Result A Fault → Type 0
Stays answer longer = answer ≢ Err SamplingLimit → longer ≡ answer

-- the results of key generation, of the public key of a private key, of preparing, and of signing
pub record AnswersStay (p : ParameterSet) (H G H' G' : XOF) : Type 0 where
  pub key_pairs : (xi : Bytes) → Stays (generated p H G xi) (generated p H' G' xi)
  pub public_keys : (sk : PrivateParts) → Stays (derived p G sk) (derived p G' sk)
  pub prepared_private_keys : (sk : PrivateParts) → Stays (prepared_private p G sk) (prepared_private p G' sk)
  pub prepared_public_keys : (pk : PublicParts) → Stays (prepared_public p G pk) (prepared_public p G' pk)
  pub inputs : (sk : PrivateParts) (rnd : Bytes) (input : Input) → Stays (sign_input p H G sk rnd input) (sign_input p H' G' sk rnd input)

-- what decides a verdict however much longer the outputs are: the matrix of the public key is there, and so is the challenge
-- of the first bytes of the signature; or the signature has no parts with a small z
pub data IsVerdictDecided (p : ParameterSet) (H G : XOF) (pk : PublicParts) (signature : Bytes) : Type 0 where
  sampled : (a : List (List T)) → sampled_matrix G pk.rho p.k p.l ≡ Some a
      → (c : R) → challenge p.tau (H (take (c_tilde_length p) signature)) ≡ Some c → IsVerdictDecided p H G pk signature
  malformed : ((c_tilde : Bytes) (z h : List R) → IsSignature p.gamma1 p.omega p.k p.l (c_tilde_length p) signature c_tilde z h
      → vector_norm z < p.gamma1 - p.beta → ⊥) → IsVerdictDecided p H G pk signature

-- a yes stays, and where it is decided, so does a no
pub record YesAndNoStay (decided yes longer_yes : Type 0) : Type 0 where
  pub yes_stays : yes → longer_yes
  pub no_stays : decided → (yes ↔ longer_yes)

-- the results of verifying, where a no for a broken condition stays too; and the public key that bytes decode to
pub record AcceptanceStays (p : ParameterSet) (H G H' G' : XOF) : Type 0 where
  pub inputs : (pk : PublicParts) (signature : Bytes) (input : Input)
      → YesAndNoStay (IsVerdictDecided p H G pk signature ⊎ (input_fault input ≢ None)) (VerifiesInput p H G pk signature input) (VerifiesInput p H' G' pk signature input)
  pub decoded : (bytes : Bytes) (pk : PublicParts) → IsPublicKeyOf H p.k bytes pk → IsPublicKeyOf H' p.k bytes pk

-- where each output of H and G is a prefix of that of H' and G', samples stay, and at each of the three sets results do
abbrev pub LongerFrontsKeep : XOF → XOF → XOF → XOF → Type 0
LongerFrontsKeep H G H' G' =
    ArePrefixes H H' → ArePrefixes G G'
    → SamplesStay H G H' G' × ((p : ParameterSet) → IsSet p → AnswersStay p H G H' G' × AcceptanceStays p H G H' G')
