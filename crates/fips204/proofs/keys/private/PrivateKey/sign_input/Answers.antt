use Rattle.std.proofs.Common.{rules, ◌≡◌, ◌∙◌, Err}
use Rattle.fips204.proofs.Writing.{written, not_written}
use Rattle.fips204.proofs.keys.private.PrivateKey.sign_input.Goals as goal

pub returns-in_err-write_signature-clause-answer : goal.returns-in_err-write_signature-clause-answer
returns-in_err-write_signature-clause-answer g c =
    let refused : c.from_residual.result ≡ Err c.in_err-write_signature.field-0.0 = search rules in
    refused ∙ not_written _ _ _ _ c.in_err-write_signature.ensures.answer

pub returns-clause-answer : goal.returns-clause-answer
returns-clause-answer g c = written _ _ _ c.in_ok-write_signature.ensures.answer
