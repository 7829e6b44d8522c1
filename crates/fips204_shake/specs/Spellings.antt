-- How keys and signatures are spelled in bytes (FIPS 204, Algorithms 22 to 27).
use Rattle.std.specs.Prelude.{◌≡◌, ℕ, List, length}
use Rattle.fips204_base.specs.Encodings.{IsPublicKeyOf, IsPrivateKeyOf, IsSignature, private_key_bytes, signature_bytes}
use Rattle.fips204_base.specs.Streams.{Bytes, XOF}
use Rattle.fips204_base.specs.declared.types.R.{R}
use Rattle.fips204.specs.ParameterSets.{ParameterSet, c_tilde_length, public_key_length, private_key_length, signature_length}
use Rattle.fips204_shake.specs.Bytes.{bytes_of_public}

-- bytes that decode have this length, what they decode to encodes to them, no other bytes decode to it, and they decode to nothing else
pub record DecodesOneToOne {A : Type 0} (decodes : Bytes → A → Type 0) (encoded : A → Bytes) (size : ℕ) : Type 0 where
  pub sized : (bytes : Bytes) (value : A) → decodes bytes value → length bytes ≡ size
  pub restored : (bytes : Bytes) (value : A) → decodes bytes value → encoded value ≡ bytes
  pub one_array : (first second : Bytes) (value : A) → decodes first value → decodes second value → first ≡ second
  pub one_value : (bytes : Bytes) (first second : A) → decodes bytes first → decodes bytes second → first ≡ second

-- so do signatures, as c_tilde, z and h, and both keys
pub record HasOneSpelling (p : ParameterSet) (H : XOF) : Type 0 where
  pub signatures : DecodesOneToOne {A = Bytes × List R × List R} (λ bytes parts. IsSignature p.gamma1 p.omega p.k p.l (c_tilde_length p) bytes parts.0 parts.1 parts.2)
      (λ parts. signature_bytes p.gamma1 p.omega parts.0 parts.1 parts.2) (signature_length p)
  pub public_keys : DecodesOneToOne (IsPublicKeyOf H p.k) bytes_of_public (public_key_length p)
  pub private_keys : DecodesOneToOne (IsPrivateKeyOf p.eta p.k p.l) (private_key_bytes p.eta) (private_key_length p)
