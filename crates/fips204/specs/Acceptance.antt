-- Acceptance (FIPS 204, Algorithm 8).
use Rattle.std.specs.Prelude.{◌≡◌, ◌<◌, ◌-◌, ◌*◌, ◌%◌, List, ◌++◌, take, pos, Some, slice_index_or, []}
use Rattle.fips204_base.specs.declared.types.R.{R}
use Rattle.fips204_base.specs.declared.types.T.{T}
use Rattle.fips204_base.specs.Residues.{vector_norm, coefficients}
use Rattle.fips204_base.specs.Transforms.{minus, product}
use Rattle.fips204_base.specs.Vectors.{vector_coefficients, matrix_product, vector_of}
use Rattle.fips204_base.specs.Rounding.{use_hint}
use Rattle.fips204_base.specs.Encodings.{PublicParts, is_one, IsSignature, w1_bytes}
use Rattle.fips204_base.specs.Sampling.{sampled_matrix, challenge}
use Rattle.fips204_base.specs.Streams.{Bytes, XOF}
use Rattle.fips204.specs.ParameterSets.{ParameterSet, c_tilde_length}

-- w1' = UseHint(h, A z - c t1 2^13), coefficient by coefficient
unfoldable pub w1_prime : ParameterSet → List (List T) → List R → List R → List R → R → List R
w1_prime p a t1 z h c = vector_of p.k (λ r n.
    let w = minus (matrix_product p.l a (vector_coefficients z) r) (product (coefficients c.0) (λ n. 8192 * vector_coefficients t1 r n % 8380417)) n in
    pos (use_hint p.gamma2 (is_one (slice_index_or h r record { 0 = [] }) n) w))

-- what a signature fixes under a matrix and t1, whatever was signed: parts, with a small z, a challenge, and the bytes of w1'
pub record Opens (p : ParameterSet) (H : XOF) (a : List (List T)) (t1 : List R) (signature c_tilde w1 : Bytes) : Type 0 where
  pub z : List R
  pub h : List R
  pub parts : IsSignature p.gamma1 p.omega p.k p.l (c_tilde_length p) signature c_tilde z h
  pub norm : vector_norm z < p.gamma1 - p.beta
  pub c : R
  pub sampled : challenge p.tau (H c_tilde) ≡ Some c
  pub recomputed : w1 ≡ w1_bytes p.gamma2 (w1_prime p a t1 z h c)

-- ML-DSA.Verify_internal (Algorithm 8) from mu, with the matrix a: c_tilde is the hash of mu and the w1 that the signature fixes
pub record Accepts (p : ParameterSet) (H : XOF) (a : List (List T)) (t1 : List R) (mu signature : Bytes) : Type 0 where
  pub c_tilde : Bytes
  pub w1 : Bytes
  pub opened : Opens p H a t1 signature c_tilde w1
  pub same : c_tilde ≡ take (c_tilde_length p) (H (mu ++ w1))

-- the same with a plain key, whose matrix has to be there
pub record Verifies (p : ParameterSet) (H G : XOF) (pk : PublicParts) (mu signature : Bytes) : Type 0 where
  pub a : List (List T)
  pub matrix : sampled_matrix G pk.rho p.k p.l ≡ Some a
  pub accepted : Accepts p H a pk.t1 mu signature
