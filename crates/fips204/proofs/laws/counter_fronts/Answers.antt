use Rattle.fips204.proofs.LongerFronts.{counter_fronts_are_prefixes}
use Rattle.fips204.proofs.laws.counter_fronts.Goals as goal

pub returns : goal.returns
returns _ = counter_fronts_are_prefixes
