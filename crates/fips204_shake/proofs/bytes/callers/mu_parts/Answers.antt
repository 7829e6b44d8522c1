use Rattle.fips204_shake.proofs.bytes.callers.mu_parts.Goals as goal

pub returns-clause-signed : goal.returns-clause-signed
returns-clause-signed c = λ p H G. (c.mu_stands_for_input.ensures p H G).signed

pub returns-clause-judged : goal.returns-clause-judged
returns-clause-judged c = λ p H G. (c.mu_stands_for_input.ensures p H G).judged

pub returns-clause-framed_signed : goal.returns-clause-framed_signed
returns-clause-framed_signed c = λ p H G. (c.framed_stands_for_input.ensures p H G).signed

pub returns-clause-framed_judged : goal.returns-clause-framed_judged
returns-clause-framed_judged c = λ p H G. (c.framed_stands_for_input.ensures p H G).judged
