-- What a program relies on: the bytes of a private key and of its public key belong together.
use Rattle.std.specs.Prelude.{◌≡◌, Bool, true, length, Result, Ok, ⊤}
use Rattle.fips204_base.specs.Streams.{Bytes, XOF}
use Rattle.fips204.specs.Framing.{Input}
use Rattle.fips204.specs.ParameterSets.{ParameterSet, public_key_length}
use Rattle.fips204_shake.specs.Bytes.{Generates, Signs, Judges, Derives, Checks, ChecksWholeness, ChecksPair}
use Rattle.fips204_shake.specs.declared.bytes.refusal.Refusal.{Refusal}

-- verify says yes to what sign wrote, the calls that ask of the private key say yes, and public_key writes the public key, into
-- an array of its length
pub record BelongTogether (p : ParameterSet) (H G : XOF) (public private : Bytes) : Type 0 where
  pub accepted : (random : Bytes) (input : Input) (old signature : Bytes) (answer : Result Bool Refusal)
      → Signs p H G private random input old signature (Ok tt) → Judges p H G public input signature answer → answer ≡ Ok true
  pub checked : (answer : Result ⊤ Refusal) → Checks p private answer → answer ≡ Ok tt
  pub whole : (answer : Result Bool Refusal) → ChecksWholeness p G private answer → answer ≡ Ok true
  pub pair : (answer : Result Bool Refusal) → ChecksPair p H G private answer → answer ≡ Ok true
  pub derived : (old new : Bytes) (answer : Result ⊤ Refusal) → length old ≡ public_key_length p → Derives p G private old new answer
      → (new ≡ public) × (answer ≡ Ok tt)

-- the arrays that one call of keygen wrote belong together, and so do a private key of which is_pair says yes and the public key
-- that public_key wrote of it
pub record PairsBelong (p : ParameterSet) (H G : XOF) : Type 0 where
  pub generated : (seed public public' private private' : Bytes) → Generates p H G seed public public' private private' (Ok tt)
      → BelongTogether p H G public' private'
  pub checked : (private old public : Bytes) → ChecksPair p H G private (Ok true) → Derives p G private old public (Ok tt)
      → BelongTogether p H G public private
