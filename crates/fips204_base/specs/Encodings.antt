-- Hints, keys and signatures as bytes (FIPS 204, Algorithms 20 to 28).
use Rattle.std.specs.Prelude.{◌≡◌, ◌≤◌, ◌+◌, ◌-◌, ℕ, List, ◌++◌, Bool, pos, length, map, take, replicate, slice_index_or, int_lt}
use Rattle.std.specs.List.{filter, flat_map, range_with_len}
use Rattle.fips204_base.specs.Packing.{polynomial_bytes}
use Rattle.fips204_base.specs.Rounding.{high_count}
use Rattle.fips204_base.specs.Streams.{Bytes, XOF}
use Rattle.fips204_base.specs.Vectors.{IsVector}
use Rattle.fips204_base.specs.declared.types.R.{R}

-- whether a polynomial of a hint has a one at a place
unfoldable pub is_one : R → ℕ → Bool
is_one w n = int_lt (pos 0) (slice_index_or w.0 n (pos 0))

-- the places of all ones, polynomial by polynomial and rising in each
unfoldable pub all_ones : List R → List ℕ
all_ones h = flat_map (λ w. filter (is_one w) (range_with_len 0 256)) h

-- HintBitPack (Algorithm 20): the places of all ones, zeros up to byte omega, and the number of ones up to the end of each polynomial
abbrev pub hint_bytes : ℕ → List R → Bytes
hint_bytes omega h =
    all_ones h ++ replicate (omega - length (all_ones h)) 0 ++ map (λ i. length (all_ones (take (i + 1) h))) (range_with_len 0 (length h))

-- the bytes spell a hint of k polynomials, which has at most omega ones
pub record Spells (omega k : ℕ) (h : List R) (bytes : Bytes) : Type 0 where
  pub hint : IsVector k 0 1 h
  pub few : length (all_ones h) ≤ omega
  pub spelling : hint_bytes omega h ≡ bytes

-- ---- Keys and signatures (Algorithms 22 to 28)

-- the polynomials of a vector one after another, with coefficients from -a to b:
--   part            a             b             bits          bytes that decode
--   t1              0             1023          10            all
--   s1, s2          eta           eta           3 or 4        where each field is at most 2 eta
--   t0              4095          4096          13            all
--   z               gamma1 - 1    gamma1        18 or 20      all
--   w1              0             43 or 15      6 or 4        written only
abbrev pub vector_bytes : ℕ → ℕ → List R → Bytes
vector_bytes a b v = flat_map (λ w. polynomial_bytes (pos a) (pos b) w.0) v

-- a public key: the seed of its matrix, the hash of its bytes, and the high part of its vector t
pub record PublicParts : Type 0 where
  pub rho : Bytes
  pub tr : Bytes
  pub t1 : List R

-- the parts have the lengths and ranges of a public key of k polynomials
pub record ArePublicParts (k : ℕ) (pk : PublicParts) : Type 0 where
  pub rho : length pk.rho ≡ 32
  pub tr : length pk.tr ≡ 64
  pub t1 : IsVector k 0 1023 pk.t1

-- pkEncode (Algorithm 22): rho, t1
abbrev pub public_key_bytes : Bytes → List R → Bytes
public_key_bytes rho t1 = rho ++ vector_bytes 0 1023 t1

-- pkDecode (Algorithm 23): the parts in range that have these bytes, with their hash over the XOF H
pub record IsPublicKeyOf (H : XOF) (k : ℕ) (bytes : Bytes) (pk : PublicParts) : Type 0 where
  pub parts : ArePublicParts k pk
  pub encoding : public_key_bytes pk.rho pk.t1 ≡ bytes
  pub tr : pk.tr ≡ take 64 (H bytes)

-- a private key: the seeds of its matrix and (K) of its masks, the hash of the public key's bytes, s1, s2, and the low part of its t
pub record PrivateParts : Type 0 where
  pub rho : Bytes
  pub key : Bytes
  pub tr : Bytes
  pub s1 : List R
  pub s2 : List R
  pub t0 : List R

-- the parts have the lengths and ranges of a private key whose matrix has k rows and l columns
pub record ArePrivateParts (eta k l : ℕ) (sk : PrivateParts) : Type 0 where
  pub rho : length sk.rho ≡ 32
  pub key : length sk.key ≡ 32
  pub tr : length sk.tr ≡ 64
  pub s1 : IsVector l eta eta sk.s1
  pub s2 : IsVector k eta eta sk.s2
  pub t0 : IsVector k 4095 4096 sk.t0

-- skEncode (Algorithm 24): rho, K, tr, s1, s2, t0
abbrev pub private_key_bytes : ℕ → PrivateParts → Bytes
private_key_bytes eta sk = sk.rho ++ sk.key ++ sk.tr ++ vector_bytes eta eta sk.s1 ++ vector_bytes eta eta sk.s2 ++ vector_bytes 4095 4096 sk.t0

-- skDecode (Algorithm 25): the parts in range that have these bytes; there are none where an s1 or s2 is out of its range
pub record IsPrivateKeyOf (eta k l : ℕ) (bytes : Bytes) (sk : PrivateParts) : Type 0 where
  pub parts : ArePrivateParts eta k l sk
  pub encoding : private_key_bytes eta sk ≡ bytes

-- sigEncode (Algorithm 26): c_tilde, z, and the spelling of the hint
abbrev pub signature_bytes : ℕ → ℕ → Bytes → List R → List R → Bytes
signature_bytes gamma1 omega c_tilde z h = c_tilde ++ vector_bytes (gamma1 - 1) gamma1 z ++ hint_bytes omega h

-- sigDecode (Algorithm 27): the parts that have these bytes: c_tilde of n bytes, z of l polynomials, a hint of k with at most omega ones
pub record IsSignature (gamma1 omega k l n : ℕ) (bytes c_tilde : Bytes) (z h : List R) : Type 0 where
  pub c_tilde_size : length c_tilde ≡ n
  pub response : IsVector l (gamma1 - 1) gamma1 z
  pub hint : IsVector k 0 1 h
  pub few : length (all_ones h) ≤ omega
  pub encoding : signature_bytes gamma1 omega c_tilde z h ≡ bytes

-- w1Encode (Algorithm 28)
abbrev pub w1_bytes : ℕ → List R → Bytes
w1_bytes gamma2 w1 = vector_bytes 0 (high_count gamma2 - 1) w1
