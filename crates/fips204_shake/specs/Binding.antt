-- What one signature of which verifying says yes twice names: a collision of H, or the same input under the same key.
use Rattle.std.specs.Prelude.{◌≡◌, ◌≢◌, ◌≤◌, ◌⊎◌, true, length, Ok}
use Rattle.fips204_base.specs.Encodings.{PublicParts, IsPublicKeyOf}
use Rattle.fips204_base.specs.Streams.{Bytes, XOF}
use Rattle.fips204.specs.Framing.{Input, represented}
use Rattle.fips204.specs.ParameterSets.{ParameterSet}
use Rattle.fips204.specs.SchemeLaws.{AreFramedAlike, NamesCollision, NamesHashCollision, NamesKeyCollision}
use Rattle.fips204_shake.specs.Bytes.{Judges}

-- of the key that these bytes decode to
abbrev pub OfKey : ParameterSet → XOF → Bytes → (PublicParts → Type 0) → Type 0
OfKey p H key says = (pk : PublicParts) × IsPublicKeyOf H p.k key pk × says pk

-- under one key for two values of mu, or for two inputs, or under two keys
pub record SignatureBinds (p : ParameterSet) (H G : XOF) : Type 0 where
  pub hashes : (key mu nu signature : Bytes) → mu ≢ nu → Judges p H G key (represented mu) signature (Ok true) → Judges p H G key (represented nu) signature (Ok true)
      → OfKey p H key (λ pk. NamesHashCollision p H G pk signature mu nu)
  pub inputs : (key : Bytes) (x y : Input) (m n signature : Bytes) → AreFramedAlike x y m n → x ≢ y → Judges p H G key x signature (Ok true) → Judges p H G key y signature (Ok true)
      → OfKey p H key (λ pk. NamesCollision p H G pk signature m n)
  pub keys : (key other : Bytes) (x y : Input) (m n signature : Bytes) → ((x : Bytes) → 4096 ≤ length (H x)) → AreFramedAlike x y m n
      → Judges p H G key x signature (Ok true) → Judges p H G other y signature (Ok true)
      → ((key ≡ other) × (x ≡ y)) ⊎ OfKey p H key (λ pk. OfKey p H other (λ pk'. NamesKeyCollision p H G key other pk pk' signature m n))
