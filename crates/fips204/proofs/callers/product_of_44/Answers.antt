use Rattle.fips204.proofs.callers.product_of_44.Goals as goal

pub returns : goal.returns
returns c = λ front a s. c.challenge_product_bound.ensures 39 2 front a s
