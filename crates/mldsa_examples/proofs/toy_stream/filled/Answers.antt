use Rattle.std.proofs.Common.{rules, arith}
use Rattle.std.specs.List.{flat_map}
use Rattle.std.proofs.lemmas.List.FromFn.{fill_by_all}
use Rattle.mldsa_examples.specs.ToyHash.{toy_state}
use Rattle.mldsa_examples.specs.ToyStreams.{spread_byte, spread_front}
use Rattle.mldsa_examples.proofs.toy_stream.filled.Goals as goal

pub returns : goal.returns
unfolding spread_front
returns c =
    let kept = c.loop-place.invariant in
    let state = toy_state (flat_map (λ part. part.now) c.args.parts.now) in
    fill_by_all (spread_byte state) c.loop-place.front 4096 0 kept.size (λ k below. kept.bytes k (search (rules, arith)))
