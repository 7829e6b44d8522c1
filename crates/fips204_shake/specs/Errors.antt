-- What an error leaves: each array that the call would write is as it was.
use Rattle.std.specs.Prelude.{◌≡◌, Err}
use Rattle.fips204_base.specs.Streams.{Bytes, XOF}
use Rattle.fips204.specs.Framing.{Input}
use Rattle.fips204.specs.ParameterSets.{ParameterSet}
use Rattle.fips204_shake.specs.Bytes.{Generates, Signs, Derives}
use Rattle.fips204_shake.specs.Prepared.{PreparesPublic, PreparesPrivate, SignsPrepared}
use Rattle.fips204_shake.specs.declared.bytes.refusal.Refusal.{Refusal}

pub record ErrorsLeave (p : ParameterSet) (H G : XOF) : Type 0 where
  pub keygen : (seed public public' private private' : Bytes) (why : Refusal) → Generates p H G seed public public' private private' (Err why)
      → (public' ≡ public) × (private' ≡ private)
  pub sign : (key rnd : Bytes) (input : Input) (old new : Bytes) (why : Refusal) → Signs p H G key rnd input old new (Err why) → new ≡ old
  pub sign_prepared : (key rnd : Bytes) (input : Input) (old new : Bytes) (why : Refusal) → SignsPrepared p H key rnd input old new (Err why) → new ≡ old
  pub public_key : (key old new : Bytes) (why : Refusal) → Derives p G key old new (Err why) → new ≡ old
  pub prepare_public_key : (key old new : Bytes) (why : Refusal) → PreparesPublic p H G key old new (Err why) → new ≡ old
  pub prepare_private_key : (key old new : Bytes) (why : Refusal) → PreparesPrivate p G key old new (Err why) → new ≡ old
