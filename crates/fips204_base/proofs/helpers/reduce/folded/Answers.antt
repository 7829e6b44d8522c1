use Rattle.std.proofs.Common.{arith}
use Rattle.fips204_base.proofs.Names.{common_steps}
use Rattle.fips204_base.proofs.helpers.reduce.folded.Goals as goal

pub returns-clause-congruent : goal.returns-clause-congruent
returns-clause-congruent c = grind (arith, common_steps)

pub returns-clause-small : goal.returns-clause-small
returns-clause-small c = grind (arith, common_steps)
