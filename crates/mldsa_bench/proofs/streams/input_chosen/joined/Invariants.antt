use Rattle.std.proofs.Common.{◌≡◌, ◌≤◌, length, take}
use Rattle.std.specs.List.{flat_map}
use Rattle.mldsa_bench.proofs.streams.input_chosen.joined.Given as goal

abbrev pub invariant-loop-part : goal.invariant-loop-part
invariant-loop-part l = record {
  size : length l.room ≡ 257;
  within : l.count ≤ 257;
  bytes : take l.count l.room ≡ flat_map (λ part. part.now) (take l.part-index l.parts);
}
