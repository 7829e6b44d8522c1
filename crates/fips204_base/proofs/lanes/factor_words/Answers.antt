use Rattle.std.proofs.Common.{rules}
use Rattle.fips204_base.proofs.LaneProducts.{wrapped_is}
use Rattle.fips204_base.proofs.lanes.factor_words.Goals as goal

pub returns-clause-factor : goal.returns-clause-factor
returns-clause-factor c = wrapped_is _ c.args.factor c.ranges.factor (search rules)
