use Rattle.fips204_shake.proofs.Unbounded as unbounded
use Rattle.fips204_shake.proofs.streams.only_limits_differ.Goals as goal

pub returns : goal.returns
returns c = unbounded.only_limits_differ c.longer_functions.ensures
