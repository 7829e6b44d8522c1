-- Keys as values, and what a private key in a file stands for.
use Rattle.std.specs.Prelude.{◌≡◌, ℕ, List, length, Ok}
use Rattle.fips204.specs.Encodings.{PublicParts, PrivateParts, IsPrivateKeyOf, public_key_bytes, private_key_bytes}
use Rattle.fips204.specs.Completeness.{IsPair}
use Rattle.fips204.specs.ParameterSets.{ParameterSet, public_key_length, private_key_length}
use Rattle.fips204.specs.Refusals.{generated}
use Rattle.fips204.specs.Sets.{named_set}
use Rattle.fips204.specs.declared.sets.SetName.{SetName}
use Rattle.fips204_shake.specs.Prepared.{PreparesPublic, PreparesPrivate}
use Rattle.fips204_shake.specs.Fronts.{shake256_front, shake128_front}
use Rattle.mlsign_engine.specs.declared.keys.Held.{Held}
use Rattle.mlsign_engine.specs.declared.keys.Held.TheVariants as held
use Rattle.fips204_shake.specs.Keys.{FileParts, Seed, Expanded, Both, HasPrivateSizes}

-- a public key: its parameter set and its bytes
pub record PublicValue : Type 0 where
  pub algorithm : SetName
  pub bytes : List ℕ

-- a private key and the public key that belongs to it: their set, what the private key's file has, and the bytes of both
pub record PairValue : Type 0 where
  pub algorithm : SetName
  pub parts : FileParts
  pub public : List ℕ
  pub private : List ℕ

abbrev pub public_of_pair : PairValue → PublicValue
public_of_pair pair = record { algorithm = pair.algorithm; bytes = pair.public }

-- what a file has of the private key with these bytes
abbrev pub parts_of : Held → List ℕ → FileParts
parts_of (held.Seed seed) private = Seed seed
parts_of held.Expanded private = Expanded private
parts_of (held.Both seed) private = Both seed private

-- these keys are what a private key in a file stands for: what its seed generates, whose bytes an expanded key beside it is; or
-- what an expanded key alone decodes to
abbrev pub StandsFor : ParameterSet → FileParts → PublicParts → PrivateParts → Type 0
StandsFor p (Seed seed) pk sk = generated p shake256_front shake128_front seed ≡ Ok (pk, sk)
StandsFor p (Expanded expanded) pk sk = IsPrivateKeyOf p.eta p.k p.l expanded sk
StandsFor p (Both seed expanded) pk sk = (generated p shake256_front shake128_front seed ≡ Ok (pk, sk)) × (expanded ≡ private_key_bytes p.eta sk)

-- these keys are those of a file, and consistent: the private one is `IsWhole`, the public one is derived of it, and both have the hash
-- of the public key's bytes
pub record HasKeys (p : ParameterSet) (parts : FileParts) (pk : PublicParts) (sk : PrivateParts) : Type 0 where
  pub stands : StandsFor p parts pk sk
  pub pair : IsPair p shake256_front shake128_front pk sk

-- a file's private key is consistent, and these are the bytes of the public key that belongs to it and of itself
pub record HasBytes (p : ParameterSet) (parts : FileParts) (public private : List ℕ) : Type 0 where
  pub pk : PublicParts
  pub sk : PrivateParts
  pub keys : HasKeys p parts pk sk
  pub sizes : HasPrivateSizes (private_key_length p) parts
  pub public_is : public ≡ public_key_bytes pk.rho pk.t1
  pub public_size : length public ≡ public_key_length p
  pub private_is : private ≡ private_key_bytes p.eta sk
  pub private_size : length private ≡ private_key_length p

-- those of a pair are consistent
abbrev pub IsConsistent : PairValue → Type 0
IsConsistent pair = HasBytes (named_set pair.algorithm) pair.parts pair.public pair.private

-- these are the bytes of the private key of a pair, prepared
abbrev pub ArePreparedOf : PairValue → List ℕ → Type 0
ArePreparedOf pair prepared = (old : List ℕ) × PreparesPrivate (named_set pair.algorithm) shake128_front pair.private old prepared (Ok tt)

-- and of a public key
abbrev pub ArePreparedPublicOf : PublicValue → List ℕ → Type 0
ArePreparedPublicOf key prepared =
    (old : List ℕ) × PreparesPublic (named_set key.algorithm) shake256_front shake128_front key.bytes old prepared (Ok tt)
