use Rattle.fips204_shake.proofs.Pairs as pairs
use Rattle.fips204_shake.proofs.bytes.laws.pair_accepts_written.Goals as goal

pub returns : goal.returns
returns c = pairs.pairs_belong c.signed_is_accepted.ensures
