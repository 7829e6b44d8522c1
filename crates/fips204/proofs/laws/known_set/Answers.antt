use Rattle.std.proofs.Common.{rules}
use Rattle.fips204.proofs.ParameterSets.{known-set}
use Rattle.fips204.proofs.laws.known_set.Goals as goal

pub returns : goal.returns
returns c = known-set c.args.p.now (search rules)
