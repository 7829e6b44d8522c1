use Rattle.fips204.proofs.callers.hook_parts.Goals as goal

pub returns-clause-signed_mu : goal.returns-clause-signed_mu
returns-clause-signed_mu c = λ p H G. (c.hooks.ensures p H G).signed_mu

pub returns-clause-judged_mu : goal.returns-clause-judged_mu
returns-clause-judged_mu c = λ p H G. (c.hooks.ensures p H G).judged_mu

pub returns-clause-signed_framed : goal.returns-clause-signed_framed
returns-clause-signed_framed c = λ p H G. (c.hooks.ensures p H G).signed_framed

pub returns-clause-judged_framed : goal.returns-clause-judged_framed
returns-clause-judged_framed c = λ p H G. (c.hooks.ensures p H G).judged_framed
