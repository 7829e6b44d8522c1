use Rattle.mlsign_engine.proofs.Hashing.{IsTaken}
use Rattle.mlsign_engine.proofs.message.message_mu.Given as goal

abbrev pub invariant-loop-count : goal.invariant-loop-count
invariant-loop-count g l = IsTaken g.I.Source.gives g.I.Source.remaining l.fn.input l.input l.tr l.context l.hasher l._count
