-- Keys as values, and key generation (FIPS 204, sections 3.3 and 7.2, Algorithm 6), over XOFs H and G.
use Rattle.std.specs.Prelude.{◌≡◌, ℕ, List, take, Result, MatchResult, ◌≢◌, ◌↔◌, pos, Bool, IsTrue, Some, None}
use Rattle.fips204_base.specs.Encodings.{PublicParts, PrivateParts, IsPrivateKeyOf, public_key_bytes}
use Rattle.fips204_base.specs.Rounding.{power2round}
use Rattle.fips204_base.specs.Sampling.{sampled_matrix}
use Rattle.fips204_base.specs.Streams.{Bytes, XOF}
use Rattle.fips204_base.specs.Transforms.{plus}
use Rattle.fips204_base.specs.Vectors.{vector_coefficients, matrix_product, vector_of}
use Rattle.fips204_base.specs.declared.fault.Fault.{Fault}
use Rattle.fips204_base.specs.declared.fault.Fault.TheVariants.{KeyRange, SamplingLimit}
use Rattle.fips204_base.specs.declared.types.R.{R}
use Rattle.fips204_base.specs.declared.types.T.{T}
use Rattle.fips204.specs.ParameterSets.{ParameterSet}

-- what decoding returns: the private key that has these bytes, or an error where none has
abbrev pub DecodesPrivate : ℕ → ℕ → ℕ → Bytes → Result PrivateParts Fault → Type 0
DecodesPrivate eta k l bytes answer = MatchResult answer (λ key. IsPrivateKeyOf eta k l bytes key) (λ fault. (fault ≡ KeyRange) × ((key : PrivateParts) → IsPrivateKeyOf eta k l bytes key → ⊥))

-- ---- Key generation (Algorithm 6)

-- coefficient n of polynomial r of t = A s1 + s2, where A has l columns
abbrev pub key_vector : ℕ → List (List T) → List R → List R → ℕ → ℕ → ℕ
key_vector l a s1 s2 r = plus (matrix_product l a (vector_coefficients s1) r) (vector_coefficients s2 r)

-- t1, the high part of A s1 + s2
unfoldable pub high_part : ParameterSet → List (List T) → List R → List R → List R
high_part p a s1 s2 = vector_of p.k (λ r n. pos (power2round (key_vector p.l a s1 s2 r n)).0)

-- t0, the low part of A s1 + s2
unfoldable pub low_part : ParameterSet → List (List T) → List R → List R → List R
low_part p a s1 s2 = vector_of p.k (λ r n. (power2round (key_vector p.l a s1 s2 r n)).1)

-- both keys of seeds, a matrix and small vectors; tr is the hash of the public key's bytes
unfoldable pub key_pair : ParameterSet → XOF → Bytes → Bytes → List (List T) → List R → List R → PublicParts × PrivateParts
key_pair p H rho key a s1 s2 =
    let t1 = high_part p a s1 s2 in
    let tr = take 64 (H (public_key_bytes rho t1)) in
    (record { rho = rho; tr = tr; t1 = t1 }, record { rho = rho; key = key; tr = tr; s1 = s1; s2 = s2; t0 = low_part p a s1 s2 })

-- a consistent private key: rejection sampling gives its matrix, and its t0 comes of A s1 + s2 by power2round
pub record IsWhole (p : ParameterSet) (G : XOF) (sk : PrivateParts) : Type 0 where
  pub matrix : List (List T)
  pub sampled : sampled_matrix G sk.rho p.k p.l ≡ Some matrix
  pub low : sk.t0 ≡ low_part p matrix sk.s1 sk.s2

-- whether a private key is consistent; an error where there is no matrix, and only there
abbrev pub TellsWhole : ParameterSet → XOF → PrivateParts → Result Bool Fault → Type 0
TellsWhole p G sk answer = MatchResult answer (λ whole. (sampled_matrix G sk.rho p.k p.l ≢ None) × (IsTrue whole ↔ IsWhole p G sk))
    (λ fault. (sampled_matrix G sk.rho p.k p.l ≡ None) × (fault ≡ SamplingLimit))
