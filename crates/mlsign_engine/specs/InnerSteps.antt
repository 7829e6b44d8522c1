-- What private functions state of each other: cited by no public clause; nobody has to believe it.
use Rattle.std.specs.Prelude.{◌≡◌, List, ℕ, length}
use Rattle.fips204.specs.Encodings.{PublicParts, PrivateParts, private_key_bytes}
use Rattle.fips204.specs.ParameterSets.{ParameterSet, private_key_length}
use Rattle.mlsign_engine.specs.Keys.{HasKeys}
use Rattle.fips204_shake.specs.Keys.{FileParts}

-- the bytes are those of the private one of a file's keys
pub record HasPrivateBytes (p : ParameterSet) (parts : FileParts) (bytes : List ℕ) : Type 0 where
  pub pk : PublicParts
  pub sk : PrivateParts
  pub keys : HasKeys p parts pk sk
  pub is : bytes ≡ private_key_bytes p.eta sk
  pub size : length bytes ≡ private_key_length p
