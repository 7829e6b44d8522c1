use Rattle.std.proofs.Common.{sym, rules}
use Rattle.fips204.proofs.ParameterSets.{high_part-size}
use Rattle.fips204.proofs.types.Params.w1_len.Goals as goal

pub returns-then-self-eq8-clause-size : goal.returns-then-self-eq8-clause-size
returns-then-self-eq8-clause-size c = sym ((high_part-size c.args.self.now (search rules)).0 (search rules))

pub returns-else-self-eq8-clause-size : goal.returns-else-self-eq8-clause-size
returns-else-self-eq8-clause-size c = sym ((high_part-size c.args.self.now (search rules)).1 (search rules))
