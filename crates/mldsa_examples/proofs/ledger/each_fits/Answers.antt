use Rattle.std.proofs.Common.{rules, below_more}
use Rattle.mldsa_examples.proofs.ledger.each_fits.Goals as goal

pub loop-place-preserved : goal.loop-place-preserved
loop-place-preserved g c = below_more _ _ c.loop-place.invariant (search rules)
