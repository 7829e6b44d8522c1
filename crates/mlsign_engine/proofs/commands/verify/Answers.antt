use Rattle.std.proofs.Common.{List, ℕ, ◌∙◌, ap}
use Rattle.fips204.specs.Framing.{plain, representative}
use Rattle.fips204.specs.Sets.{named_set}
use Rattle.fips204_shake.specs.Fronts.{shake256_front}
use Rattle.mlsign_engine.proofs.KeyPairs.{known_set, verdict_told}
use Rattle.mlsign_engine.proofs.commands.verify.Goals as goal

pub returns-in-Ok-clause-judged : goal.returns-in-Ok-clause-judged
returns-in-Ok-clause-judged g c =
    let key = c.args.key.now in
    let p = named_set key.algorithm in
    let hashed = c.in_ok-mu.ensures.hashed in
    let hash = hashed.2 ∙ ap (λ (tr : List ℕ). representative shake256_front tr (plain hashed.0 c.args.context.now)) c.tr.ensures.tr in
    let told = verdict_told p (c.key_bytes.ensures p (known_set key.algorithm)) key.bytes c.args.signature.now c.args.context.now hashed.0 c.in_ok-mu.mu c.judge_mu.result
    c.tr.ensures.size c.if-context-gt-LONGEST.false hash c.judge_mu.ensures in
    (hashed.0, hashed.1, record { answer = rw c.in-Ok.is at told })

pub returns-in-Err-clause-judged : goal.returns-in-Err-clause-judged
returns-in-Err-clause-judged g c =
    let key = c.args.key.now in
    let p = named_set key.algorithm in
    let hashed = c.in_ok-mu.ensures.hashed in
    let hash = hashed.2 ∙ ap (λ (tr : List ℕ). representative shake256_front tr (plain hashed.0 c.args.context.now)) c.tr.ensures.tr in
    let told = verdict_told p (c.key_bytes.ensures p (known_set key.algorithm)) key.bytes c.args.signature.now c.args.context.now hashed.0 c.in_ok-mu.mu c.judge_mu.result
    c.tr.ensures.size c.if-context-gt-LONGEST.false hash c.judge_mu.ensures in
    let never = rw c.in-Err.is at told in
    (hashed.0, hashed.1, record { answer = (λ yes. absurd cc, λ valid. absurd (never valid)) })
