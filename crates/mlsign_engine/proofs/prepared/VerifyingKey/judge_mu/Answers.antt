use Rattle.std.proofs.Common.{subst}
use Rattle.fips204.specs.Framing.{represented}
use Rattle.fips204.specs.Sets.{named_set}
use Rattle.fips204_shake.specs.Bytes.{Judges}
use Rattle.fips204_shake.specs.Fronts.{shake256_front, shake128_front}
use Rattle.mlsign_engine.specs.Keys.{PublicValue}
use Rattle.mlsign_engine.proofs.KeyPairs.{known_set}
use Rattle.mlsign_engine.proofs.prepared.VerifyingKey.judge_mu.Goals as goal

pub returns : goal.returns
returns c =
    let key = c.self.inside.key in
    let ready = c.self.invariant.2 in
    let told = rw (c.algorithm-set.ensures, c.as_slice-prepared.ensures.value) at c.verify_prepared.ensures in
    let judged = (c.prepared_stands_for_plain.ensures (named_set key.algorithm) shake256_front shake128_front (known_set key.algorithm)).judged key.bytes ready.0
    c.self.inside.prepared.items (represented c.args.mu.now) c.args.signature.now c.verify_prepared.result ready.1 told in
    subst (λ (k : PublicValue). Judges (named_set k.algorithm) shake256_front shake128_front k.bytes (represented c.args.mu.now) c.args.signature.now
    c.verify_prepared.result) c.self.view_is judged
