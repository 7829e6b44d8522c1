use Rattle.fips204.proofs.Names.{product_of_transforms}
use Rattle.fips204.proofs.laws.product_of_transforms.Goals as goal

pub returns : goal.returns
returns _ = product_of_transforms
