-- Whole calls, with their errors in order (FIPS 204, Algorithms 1 to 5, 7 and 8).
use Rattle.std.specs.Prelude.{◌≡◌, ◌⊎◌, ℕ, [], ◌∷◌, ◌++◌, length, take, drop, nat_lt, Option, Some, None, option_map, option_and_then, Result, Ok, Err, IfErr, MatchResult, ⊤, ok_or, Bool, true, false, replicate, if◌then◌else◌}
use Rattle.fips204_base.specs.Encodings.{PublicParts, PrivateParts}
use Rattle.fips204_base.specs.Sampling.{sampled_matrix, small_vectors}
use Rattle.fips204_base.specs.Streams.{Bytes, XOF}
use Rattle.fips204_base.specs.declared.fault.Fault.{Fault}
use Rattle.fips204_base.specs.declared.fault.Fault.TheVariants.{SignCtx, HashCtx, SamplingLimit}
use Rattle.fips204.specs.ParameterSets.{ParameterSet}
use Rattle.fips204.specs.Keys.{high_part, key_pair}
use Rattle.fips204.specs.Framing.{Input, plain, hashed, pre_hash_fault, framed, represented, representative}
use Rattle.fips204.specs.Signing.{sign}
use Rattle.fips204.specs.Acceptance.{Verifies}

-- an error that stands first, or else the result
abbrev pub refused_or : {A : Type 0} → Option Fault → Result A Fault → Result A Fault
refused_or None answer = answer
refused_or (Some fault) answer = Err fault

-- the first condition that an input breaks, or none: a context of at most 255 bytes, then those on digest and OID; M' and mu have none
abbrev pub input_fault : Input → Option Fault
input_fault (plain message context) = if nat_lt 255 (length context) then Some SignCtx else None
input_fault (hashed digest context oid) = if nat_lt 255 (length context) then Some HashCtx else pre_hash_fault digest oid
input_fault (framed m) = None
input_fault (represented mu) = None

-- ML-DSA.KeyGen (Algorithms 1 and 6) from the seed xi: H over xi, byte k and byte l gives rho, rho' and K; an error where a sampler gives none
unfoldable pub generated : ParameterSet → XOF → XOF → Bytes → Result (PublicParts × PrivateParts) Fault
generated p H G xi =
    let seeds = H (xi ++ p.k ∷ p.l ∷ []) in
    let rho = take 32 seeds in
    let rho' = take 64 (drop 32 seeds) in
    let key = take 32 (drop 96 seeds) in
    ok_or (option_and_then (λ a. option_map (λ small. key_pair p H rho key a small.0 small.1) (small_vectors p.eta H rho' p.k p.l)) (sampled_matrix G rho p.k p.l)) SamplingLimit

-- the public key of a private key: its rho and tr, and the high part of A s1 + s2; an error where there is no matrix
unfoldable pub derived : ParameterSet → XOF → PrivateParts → Result PublicParts Fault
derived p G sk = ok_or (option_map (λ a. record { rho = sk.rho; tr = sk.tr; t1 = high_part p a sk.s1 sk.s2 }) (sampled_matrix G sk.rho p.k p.l)) SamplingLimit

-- signing from rnd: ML-DSA.Sign (Algorithm 2) of a message, HashML-DSA.Sign (4) of a digest, ML-DSA.Sign_internal (7) of M'
abbrev pub sign_input : ParameterSet → XOF → XOF → PrivateParts → Bytes → Input → Result Bytes Fault
sign_input p H G sk rnd input = refused_or (input_fault input) (sign p H G sk (representative H sk.tr input) rnd)

-- a signature of an input is accepted (Algorithms 3, 5 and 8): the input breaks no condition, and its mu is accepted
abbrev pub VerifiesInput : ParameterSet → XOF → XOF → PublicParts → Bytes → Input → Type 0
VerifiesInput p H G pk signature input = (input_fault input ≡ None) × Verifies p H G pk (representative H pk.tr input) signature

-- a call that writes into an array: what is made stands there; or the array is as it was, and the result says why
abbrev pub Writes : Result Bytes Fault → Bytes → Bytes → Result ⊤ Fault → Type 0
Writes made old new result = MatchResult made (λ bytes. (new ≡ bytes) × (result ≡ Ok tt)) (λ fault. (new ≡ old) × (result ≡ Err fault))

-- a result's one error is that a sampler reached its limit
abbrev pub OnlySamplingLimit : {A : Type 0} → Result A Fault → Type 0
OnlySamplingLimit answer = IfErr answer (λ fault. fault ≡ SamplingLimit)

-- what a call returns that asks a generator once, for 32 bytes: the result over bytes that it gave, or the error where
-- it failed; gives and refuses are what the generator states of such a call, from before to after
abbrev pub Draws : {S A : Type 0} → (S → ℕ → Bytes → S → Type 0) → (S → ℕ → S → Type 0) → S → S → Fault → (Bytes → Result A Fault) → Result A Fault → Type 0
Draws gives refuses before after refusal answer result =
    ((bytes : Bytes) × gives before 32 bytes after × (length bytes ≡ 32) × (result ≡ answer bytes)) ⊎ (refuses before 32 after × (result ≡ Err refusal))

-- the same with an error that stands before the generator, which then stays as it was
abbrev pub DrawsUnless : {S A : Type 0} → Option Fault → (S → ℕ → Bytes → S → Type 0) → (S → ℕ → S → Type 0) → S → S → Fault → (Bytes → Result A Fault) → Result A Fault → Type 0
DrawsUnless None gives refuses before after refusal answer result = Draws gives refuses before after refusal answer result
DrawsUnless (Some fault) gives refuses before after refusal answer result = (after ≡ before) × (result ≡ Err fault)

-- the same of a hook of signing: without hedging 32 zeros stand for the random bytes, and the generator isn't asked
abbrev pub DrawsIf : {S A : Type 0} → Bool → (S → ℕ → Bytes → S → Type 0) → (S → ℕ → S → Type 0) → S → S → Fault → (Bytes → Result A Fault) → Result A Fault → Type 0
DrawsIf true gives refuses before after refusal answer result = Draws gives refuses before after refusal answer result
DrawsIf false gives refuses before after refusal answer result = (after ≡ before) × (result ≡ answer (replicate 32 0))
