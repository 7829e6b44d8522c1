use Rattle.std.proofs.Common.{◌≡◌, Err, List, ℕ, length, ◌∙◌, ap, rules}
use Rattle.std.proofs.lemmas.List.{take_at}
use Rattle.fips204.specs.Framing.{plain, representative}
use Rattle.fips204.specs.ParameterSets.{signature_length}
use Rattle.fips204.specs.Sets.{named_set}
use Rattle.fips204.specs.declared.sets.SetName.{SetName}
use Rattle.fips204_shake.specs.Fronts.{shake256_front}
use Rattle.mlsign_engine.specs.Commands.{fault_of}
use Rattle.mlsign_engine.proofs.KeyPairs.{known_set, private_of, signature_written}
use Rattle.mlsign_engine.proofs.commands.sign.Goals as goal

pub returns-in_err-sign_mu-clause-fault : goal.returns-in_err-sign_mu-clause-fault
returns-in_err-sign_mu-clause-fault g c =
    let pair = c.args.key.now in
    let p = named_set pair.algorithm in
    let hashed = c.in_ok-mu.ensures.hashed in
    let has = private_of p pair.parts pair.public pair.private c.tr-tr.ensures.consistent in
    let size : length c.as_mut_slice.result.now ≡ signature_length p =
    c.as_mut_slice.ensures.len ∙ c.in_ok-signature.ensures.len ∙ c.signature_len.ensures
    ∙ ap (λ (set : SetName). signature_length (named_set set)) c.algorithm-algorithm.ensures in
    let hash = hashed.2 ∙ ap (λ (tr : List ℕ). representative shake256_front tr (plain hashed.0 c.args.context.now)) c.tr-tr.ensures.tr in
    let told = signature_written p c.signed_is_accepted.ensures (known_set pair.algorithm) pair.parts pair.private c.args.random.now c.args.context.now hashed.0 c.in_ok-mu.mu _
    c.sign_mu.new.signature c.sign_mu.result has size (c.sign_mu.auto.signature ∙ size) c.if-context-gt-LONGEST.false hash c.sign_mu.ensures in
    let refused = rw c.in_err-sign_mu.was at told in
    let is : c.from_residual-in_err-sign_mu.result ≡ Err (fault_of c.in_err-sign_mu.field-0.0) = search rules in
    rw (is, refused.1) (hashed.0, hashed.1, refused.2)

pub returns-clause-signed : goal.returns-clause-signed
returns-clause-signed g c =
    let pair = c.args.key.now in
    let p = named_set pair.algorithm in
    let hashed = c.in_ok-mu.ensures.hashed in
    let has = private_of p pair.parts pair.public pair.private c.tr-tr.ensures.consistent in
    let size : length c.as_mut_slice.result.now ≡ signature_length p =
    c.as_mut_slice.ensures.len ∙ c.in_ok-signature.ensures.len ∙ c.signature_len.ensures
    ∙ ap (λ (set : SetName). signature_length (named_set set)) c.algorithm-algorithm.ensures in
    let hash = hashed.2 ∙ ap (λ (tr : List ℕ). representative shake256_front tr (plain hashed.0 c.args.context.now)) c.tr-tr.ensures.tr in
    let told = signature_written p c.signed_is_accepted.ensures (known_set pair.algorithm) pair.parts pair.private c.args.random.now c.args.context.now hashed.0 c.in_ok-mu.mu _
    c.sign_mu.new.signature c.sign_mu.result has size (c.sign_mu.auto.signature ∙ size) c.if-context-gt-LONGEST.false hash c.sign_mu.ensures in
    rw (take_at c.sign_mu.new.signature _ _ (c.sign_mu.auto.signature ∙ c.as_mut_slice.ensures.len)) (hashed.0, hashed.1, rw c.in_ok-sign_mu.was at told)
