use Rattle.fips204.proofs.ChallengeProducts.{challenge_product_is_small}
use Rattle.fips204.proofs.laws.challenge_product_bound.Goals as goal

pub returns : goal.returns
returns _ = challenge_product_is_small
