-- What mu and M' of an input stand for, under the bytes of a key.
use Rattle.std.specs.Prelude.{◌≡◌, ◌↔◌, Bool, None, Some, Result, ⊤, take, drop}
use Rattle.fips204_base.specs.Streams.{Bytes, XOF}
use Rattle.fips204.specs.Framing.{Input, framed, represented, representative}
use Rattle.fips204.specs.ParameterSets.{ParameterSet}
use Rattle.fips204.specs.Refusals.{input_fault}
use Rattle.fips204.specs.SchemeLaws.{framing}
use Rattle.fips204_shake.specs.Bytes.{Signs, Judges}
use Rattle.fips204_shake.specs.declared.bytes.refusal.Refusal.{Refusal}

-- tr in the bytes of a private key, behind rho and K (Algorithm 24), and of a public one: the hash of its bytes
abbrev pub tr_of_private : Bytes → Bytes
tr_of_private key = take 64 (drop 64 key)

abbrev pub tr_of_public : XOF → Bytes → Bytes
tr_of_public H key = take 64 (H key)

-- where an input breaks no condition, signing and verifying its mu is signing and verifying it
pub record MuStandsForInput (p : ParameterSet) (H G : XOF) : Type 0 where
  pub signed : (key random : Bytes) (input : Input) (old new : Bytes) (answer : Result ⊤ Refusal) → input_fault input ≡ None
      → Signs p H G key random (represented (representative H (tr_of_private key) input)) old new answer ↔ Signs p H G key random input old new answer
  pub judged : (key : Bytes) (input : Input) (signature : Bytes) (answer : Result Bool Refusal) → input_fault input ≡ None
      → Judges p H G key (represented (representative H (tr_of_public H key) input)) signature answer ↔ Judges p H G key input signature answer

-- and so are signing and verifying its M'
pub record FramedStandsForInput (p : ParameterSet) (H G : XOF) : Type 0 where
  pub signed : (key random : Bytes) (input : Input) (m old new : Bytes) (answer : Result ⊤ Refusal) → input_fault input ≡ None → framing input ≡ Some m
      → Signs p H G key random (framed m) old new answer ↔ Signs p H G key random input old new answer
  pub judged : (key : Bytes) (input : Input) (m signature : Bytes) (answer : Result Bool Refusal) → input_fault input ≡ None → framing input ≡ Some m
      → Judges p H G key (framed m) signature answer ↔ Judges p H G key input signature answer
