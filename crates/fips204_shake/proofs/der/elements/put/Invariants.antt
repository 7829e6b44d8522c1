use Rattle.std.proofs.Common.{◌≡◌, length, take}
use Rattle.std.specs.List.{flat_map}
use Rattle.fips204_shake.proofs.der.elements.put.Given as goal

-- the parts so far
abbrev pub invariant-loop-part : goal.invariant-loop-part
invariant-loop-part l = record {
  at : l.at ≡ length (flat_map (λ part. part.now) (take l.part-index l.parts));
  written : take l.at l.out ≡ flat_map (λ part. part.now) (take l.part-index l.parts);
}
