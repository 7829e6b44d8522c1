use Rattle.std.proofs.Common.{◌≡◌, take}
use Rattle.std.specs.List.{fold}
use Rattle.mldsa_examples.specs.ToyHash.{next_state}
use Rattle.mldsa_examples.proofs.toy_hash.absorb.Given as goal

abbrev pub invariant-loop-byte : goal.invariant-loop-byte
invariant-loop-byte l = l.state ≡ fold next_state l.fn.state (take l.byte-index l.part)
