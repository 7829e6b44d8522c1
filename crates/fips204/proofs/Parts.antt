-- Parts of definitions by themselves, for proofs alone.
use Rattle.std.specs.Prelude.{◌≡◌, ◌⊎◌, ◌*◌, ◌%◌, ℕ, List, [], ◌∷◌, ◌++◌, take, pos}
use Rattle.fips204_base.specs.Encodings.{PrivateParts, public_key_bytes}
use Rattle.fips204_base.specs.Residues.{coefficients}
use Rattle.fips204_base.specs.Rounding.{high_bits}
use Rattle.fips204_base.specs.Transforms.{product, plus}
use Rattle.fips204_base.specs.Vectors.{vector_coefficients, vector_of}
use Rattle.fips204_base.specs.declared.fault.Fault.{Fault}
use Rattle.fips204_base.specs.declared.fault.Fault.TheVariants.{SamplingLimit, TooManyAttempts}
use Rattle.fips204_base.specs.declared.types.R.{R}
use Rattle.fips204.specs.ParameterSets.{ParameterSet}

-- the errors of signing beside those of its input: a sampler reached its limit, or every attempt was rejected
abbrev pub IsSigningLimit : Fault → Type 0
IsSigningLimit fault = (fault ≡ SamplingLimit) ⊎ (fault ≡ TooManyAttempts)

-- w1, the high bits of w
abbrev pub high_vector : ParameterSet → (ℕ → ℕ → ℕ) → List R
high_vector p w = vector_of p.k (λ r n. pos (high_bits p.gamma2 (w r n)))

-- rho'', the seed of the masks
abbrev pub mask_seed : (List ℕ → List ℕ) → PrivateParts → List ℕ → List ℕ → List ℕ
mask_seed H sk rnd mu = take 64 (H (sk.key ++ rnd ++ mu))

-- the seeds of both keys: H over xi, byte k and byte l
abbrev pub seed_front : ParameterSet → (List ℕ → List ℕ) → List ℕ → List ℕ
seed_front p H xi = H (xi ++ p.k ∷ p.l ∷ [])

-- tr, the hash by H of the public key's bytes, 64 of its bytes
abbrev pub key_hash : (List ℕ → List ℕ) → List ℕ → List R → List ℕ
key_hash H rho t1 = take 64 (H (public_key_bytes rho t1))

-- t1 2^13
abbrev pub t1_shifted : List R → ℕ → ℕ → ℕ
t1_shifted t1 r n = 8192 * vector_coefficients t1 r n % 8380417

-- c v
abbrev pub scaled : R → (ℕ → ℕ → ℕ) → ℕ → ℕ → ℕ
scaled c v r = product (coefficients c.0) (v r)

-- y + c s1
abbrev pub y_plus_cs1 : List R → List R → R → ℕ → ℕ → ℕ
y_plus_cs1 s1 y c r = plus (vector_coefficients y r) (scaled c (vector_coefficients s1) r)
