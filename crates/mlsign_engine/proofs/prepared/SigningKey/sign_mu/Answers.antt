use Rattle.std.proofs.Common.{subst}
use Rattle.fips204.specs.Framing.{represented}
use Rattle.fips204.specs.Sets.{named_set}
use Rattle.fips204_shake.specs.Bytes.{Signs}
use Rattle.fips204_shake.specs.Fronts.{shake256_front, shake128_front}
use Rattle.mlsign_engine.specs.Keys.{PairValue}
use Rattle.mlsign_engine.proofs.KeyPairs.{known_set}
use Rattle.mlsign_engine.proofs.prepared.SigningKey.sign_mu.Goals as goal

pub returns : goal.returns
returns c =
    let pair = c.self.inside.pair in
    let ready = c.self.invariant in
    let told = rw (c.algorithm-set.ensures, c.as_slice-prepared.ensures.value) at c.sign_prepared.ensures in
    let signed = (c.prepared_stands_for_plain.ensures (named_set pair.algorithm) shake256_front shake128_front (known_set pair.algorithm)).signed pair.private ready.0
    c.self.inside.prepared.items c.args.random.now (represented c.args.mu.now) c.args.signature.now c.sign_prepared.new.signature c.sign_prepared.result ready.1 told in
    subst (λ (k : PairValue). Signs (named_set k.algorithm) shake256_front shake128_front k.private c.args.random.now (represented c.args.mu.now)
    c.args.signature.now c.sign_prepared.new.signature c.sign_prepared.result) c.self.view_is signed
