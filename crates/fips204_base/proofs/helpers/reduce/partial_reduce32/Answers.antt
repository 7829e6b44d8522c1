use Rattle.std.proofs.Common.{arith}
use Rattle.fips204_base.proofs.Names.{ints}
use Rattle.fips204_base.proofs.helpers.reduce.partial_reduce32.Goals as goal

pub returns-clause-congruent : goal.returns-clause-congruent
returns-clause-congruent c = grind (arith, ints)

pub returns-clause-small : goal.returns-clause-small
returns-clause-small c = grind (arith, ints)
