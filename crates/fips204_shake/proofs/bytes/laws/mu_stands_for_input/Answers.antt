use Rattle.fips204_shake.proofs.Mu.{mu_stands_for_input}
use Rattle.fips204_shake.proofs.bytes.laws.mu_stands_for_input.Goals as goal

pub returns : goal.returns
returns c = λ p H G. mu_stands_for_input p H G (c.hooks.ensures p H G)
