use Rattle.std.proofs.Common.{rules}
use Rattle.fips204_base.proofs.helpers.reduce.reduce_sum.Goals as goal

pub overflow_cast-folded_sum : goal.overflow_cast-folded_sum
overflow_cast-folded_sum c = search rules

pub partial_reduce32-requires : goal.partial_reduce32-requires
partial_reduce32-requires c = search rules

pub returns-clause-congruent : goal.returns-clause-congruent
returns-clause-congruent c = search rules
