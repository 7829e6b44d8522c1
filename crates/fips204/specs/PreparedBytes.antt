-- Prepared keys as bytes: the plain key's bytes, the hash tr behind a public one, and the matrix. FIPS 204 has no such encoding.
use Rattle.std.specs.Prelude.{◌≡◌, ◌↔◌, ◌≤ℤ◌, ◌+◌, ◌*◌, ℕ, pos, nat_abs, List, ◌++◌, length, Option, MatchOption, Ok}
use Rattle.std.specs.List.{All, flat_map}
use Rattle.std.specs.Int.{w32, to_le_bytes}
use Rattle.fips204_base.specs.Encodings.{PublicParts, PrivateParts, ArePublicParts, ArePrivateParts, public_key_bytes, private_key_bytes}
use Rattle.fips204_base.specs.Streams.{Bytes, XOF}
use Rattle.fips204_base.specs.declared.types.T.{T}
use Rattle.fips204.specs.ParameterSets.{ParameterSet, public_key_length, private_key_length}
use Rattle.fips204.specs.Prepared.{PreparedPublic, PreparedPrivate, prepared_public, prepared_private}

-- the values of a transform, of a row and of a matrix, one after another, each in four bytes, the lowest first
abbrev pub entry_bytes : T → Bytes
entry_bytes t = flat_map (λ x. to_le_bytes w32 (nat_abs x)) t.0

abbrev pub row_bytes : List T → Bytes
row_bytes row = flat_map entry_bytes row

abbrev pub matrix_bytes : List (List T) → Bytes
matrix_bytes a = flat_map row_bytes a

-- 256 values from 0 to q - 1; a row of l such entries; and a matrix of k such rows
abbrev pub IsEntry : T → Type 0
IsEntry t = (length t.0 ≡ 256) × All (λ x. (pos 0 ≤ℤ x) × (x ≤ℤ pos 8380416)) t.0

abbrev pub IsRow : ℕ → List T → Type 0
IsRow l row = (length row ≡ l) × All IsEntry row

abbrev pub IsMatrix : ℕ → ℕ → List (List T) → Type 0
IsMatrix k l a = (length a ≡ k) × All (IsRow l) a

-- a result that P holds of, or none where P holds of nothing
abbrev pub Decodes : {A : Type 0} → (A → Type 0) → Option A → Type 0
Decodes {A} P answer = MatchOption answer ((x : A) → P x → ⊥) P

-- a prepared public key: the key's bytes, tr, and the matrix
abbrev pub prepared_public_bytes : PreparedPublic → Bytes
prepared_public_bytes pk = public_key_bytes pk.parts.rho pk.parts.t1 ++ pk.parts.tr ++ matrix_bytes pk.matrix

abbrev pub prepared_public_length : ParameterSet → ℕ
prepared_public_length p = public_key_length p + 64 + 1024 * p.l * p.k

-- the prepared public key that has these bytes
pub record IsPreparedPublicOf (k l : ℕ) (bytes : Bytes) (pk : PreparedPublic) : Type 0 where
  pub parts : ArePublicParts k pk.parts
  pub matrix : IsMatrix k l pk.matrix
  pub encoding : prepared_public_bytes pk ≡ bytes

-- a prepared private key: the key's bytes and the matrix
abbrev pub prepared_private_bytes : ℕ → PreparedPrivate → Bytes
prepared_private_bytes eta sk = private_key_bytes eta sk.parts ++ matrix_bytes sk.matrix

abbrev pub prepared_private_length : ParameterSet → ℕ
prepared_private_length p = private_key_length p + 1024 * p.l * p.k

-- the prepared private key that has these bytes
pub record IsPreparedPrivateOf (eta k l : ℕ) (bytes : Bytes) (sk : PreparedPrivate) : Type 0 where
  pub parts : ArePrivateParts eta k l sk.parts
  pub matrix : IsMatrix k l sk.matrix
  pub encoding : prepared_private_bytes eta sk ≡ bytes

-- a prepared key's bytes have the parameter set's length, and what is read from them is that key and nothing else
pub record PreparedThroughBytes (p : ParameterSet) (G : XOF) : Type 0 where
  pub public_length : (pk : PublicParts) (prepared : PreparedPublic) → ArePublicParts p.k pk → prepared_public p G pk ≡ Ok prepared
      → length (prepared_public_bytes prepared) ≡ prepared_public_length p
  pub private_length : (sk : PrivateParts) (prepared : PreparedPrivate) → ArePrivateParts p.eta p.k p.l sk → prepared_private p G sk ≡ Ok prepared
      → length (prepared_private_bytes p.eta prepared) ≡ prepared_private_length p
  pub public_keys : (pk : PublicParts) (prepared other : PreparedPublic) → ArePublicParts p.k pk → prepared_public p G pk ≡ Ok prepared
      → IsPreparedPublicOf p.k p.l (prepared_public_bytes prepared) other ↔ (other ≡ prepared)
  pub private_keys : (sk : PrivateParts) (prepared other : PreparedPrivate) → ArePrivateParts p.eta p.k p.l sk → prepared_private p G sk ≡ Ok prepared
      → IsPreparedPrivateOf p.eta p.k p.l (prepared_private_bytes p.eta prepared) other ↔ (other ≡ prepared)
