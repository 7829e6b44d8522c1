use Rattle.std.proofs.Common.{◌≡◌, take}
use Rattle.std.specs.List.{flat_map}
use Rattle.mldsa_examples.specs.ToyHash.{toy_state}
use Rattle.mldsa_examples.proofs.toy_hash.state_of.Given as goal

abbrev pub invariant-loop-part : goal.invariant-loop-part
invariant-loop-part l = l.state ≡ toy_state (flat_map (λ part. part.now) (take l.part-index l.parts))
