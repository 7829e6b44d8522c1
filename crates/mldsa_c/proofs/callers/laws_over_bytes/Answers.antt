use Rattle.std.proofs.Common.{ap, ◌∙◌, arith}
use Rattle.fips204.specs.Framing.{represented}
use Rattle.fips204_shake.specs.Fronts.{shake256_front, shake128_front, length-shake256_front}
use Rattle.mldsa_c.specs.Statuses.{done_status, answer_status}
use Rattle.mldsa_c.proofs.Mu.{mu_signed, mu_judged, verified, verified_mu}
use Rattle.mldsa_c.proofs.ByStatus.{belong, accepted, fits}
use Rattle.mldsa_c.proofs.PreparedKeys as keys_prepared
use Rattle.mldsa_c.proofs.callers.laws_over_bytes.Goals as goal

pub returns-clause-inputs : goal.returns-clause-inputs
returns-clause-inputs c = λ p pk sk input random old signature status known are.
    accepted p pk sk (belong c.pair_accepts_written.ensures p known pk sk are) input random old signature status

pub returns-clause-hashes : goal.returns-clause-hashes
returns-clause-hashes c = λ p pk sk mu random old signature status known are signs judges.
    let (long, signed) = fits 64 mu signs (λ (_, two). absurd cc) in
    accepted p pk sk (belong c.pair_accepts_written.ensures p known pk sk are) (represented mu) random old signature status signed (judges.0 long)

pub returns-clause-checked : goal.returns-clause-checked
returns-clause-checked c = λ p pk sk status known are (answer, checks, is). is ∙ ap done_status ((belong c.pair_accepts_written.ensures p known pk sk are).checked answer checks)

pub returns-clause-whole : goal.returns-clause-whole
returns-clause-whole c = λ p pk sk status known are (answer, checks, is). is ∙ ap answer_status ((belong c.pair_accepts_written.ensures p known pk sk are).whole answer checks)

pub returns-clause-pair : goal.returns-clause-pair
returns-clause-pair c = λ p pk sk status known are (answer, checks, is). is ∙ ap answer_status ((belong c.pair_accepts_written.ensures p known pk sk are).pair answer checks)

pub returns-clause-derived : goal.returns-clause-derived
returns-clause-derived c = λ p pk sk old new status known are room (answer, derives, is).
    let (same, ok) = (belong c.pair_accepts_written.ensures p known pk sk are).derived old new answer room derives in
    (same, is ∙ ap done_status ok)

pub returns-clause-mu_signed : goal.returns-clause-mu_signed
returns-clause-mu_signed c = λ p. mu_signed p (c.mu_stands_for_input.ensures p shake256_front shake128_front)

pub returns-clause-mu_judged : goal.returns-clause-mu_judged
returns-clause-mu_judged c = λ p. mu_judged p (c.mu_stands_for_input.ensures p shake256_front shake128_front)

pub returns-clause-mu_bound : goal.returns-clause-mu_bound
returns-clause-mu_bound c = λ p key mu nu signature known differ first second.
    (c.signature_binds.ensures p shake256_front shake128_front known).hashes key mu nu signature differ (verified_mu p key mu signature first) (verified_mu p key nu signature second)

pub returns-clause-inputs_bound : goal.returns-clause-inputs_bound
returns-clause-inputs_bound c = λ p key x y m n signature known alike differ first second.
    (c.signature_binds.ensures p shake256_front shake128_front known).inputs key x y m n signature alike differ (verified p key x signature first) (verified p key y signature second)

pub returns-clause-keys_bound : goal.returns-clause-keys_bound
returns-clause-keys_bound c = λ p key other x y m n signature known alike first second.
    (c.signature_binds.ensures p shake256_front shake128_front known).keys key other x y m n signature (λ input. omega (arith, length-shake256_front input)) alike
    (verified p key x signature first) (verified p other y signature second)

pub returns-clause-prepared_judged : goal.returns-clause-prepared_judged
returns-clause-prepared_judged c = λ p key old prepared input signature status known.
    keys_prepared.judged p (c.prepared_stands_for_plain.ensures p shake256_front shake128_front known) key old prepared input signature status

pub returns-clause-prepared_judged_mu : goal.returns-clause-prepared_judged_mu
returns-clause-prepared_judged_mu c = λ p key old prepared mu signature status known prepares judges.
    let law = c.prepared_stands_for_plain.ensures p shake256_front shake128_front known in
    (λ long. keys_prepared.judged p law key old prepared (represented mu) signature status prepares (judges.0 long), judges.1)

pub returns-clause-prepared_signed : goal.returns-clause-prepared_signed
returns-clause-prepared_signed c = λ p key old prepared input random before after status known.
    keys_prepared.signed p (c.prepared_stands_for_plain.ensures p shake256_front shake128_front known) key old prepared input random before after status

pub returns-clause-prepared_signed_mu : goal.returns-clause-prepared_signed_mu
returns-clause-prepared_signed_mu c = λ p key old prepared mu random before after status known prepares signs.
    let law = c.prepared_stands_for_plain.ensures p shake256_front shake128_front known in
    (λ long. keys_prepared.signed p law key old prepared (represented mu) random before after status prepares (signs.0 long), signs.1)
