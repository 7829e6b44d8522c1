use Rattle.fips204.proofs.Names.{inverse_of_transforms}
use Rattle.fips204.proofs.laws.inverse_of_transform.Goals as goal

pub returns : goal.returns
returns _ = inverse_of_transforms
