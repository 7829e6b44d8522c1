use Rattle.fips204.proofs.LongerFronts.{longer_fronts_keep}
use Rattle.fips204.proofs.laws.longer_functions.Goals as goal

pub returns : goal.returns
returns _ = longer_fronts_keep
