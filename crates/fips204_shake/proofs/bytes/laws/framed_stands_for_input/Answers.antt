use Rattle.fips204_shake.proofs.Mu.{framed_stands_for_input}
use Rattle.fips204_shake.proofs.bytes.laws.framed_stands_for_input.Goals as goal

pub returns : goal.returns
returns c = λ p H G. framed_stands_for_input p H G (c.hooks.ensures p H G)
