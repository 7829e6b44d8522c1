use Rattle.std.proofs.Common.{ℕ, ◌≡◌, ◌<◌, get_or, length}
use Rattle.std.specs.List.{flat_map}
use Rattle.mldsa_examples.specs.ToyHash.{toy_state}
use Rattle.mldsa_examples.specs.ToyStreams.{spread_byte}
use Rattle.mldsa_examples.proofs.toy_stream.filled.Given as goal

abbrev pub invariant-loop-place : goal.invariant-loop-place
invariant-loop-place l = record {
  size : length l.front ≡ 4096;
  bytes : (k : ℕ) → k < l.place → get_or l.front k 0 ≡ spread_byte (toy_state (flat_map (λ part. part.now) l.fn.parts)) k;
}
