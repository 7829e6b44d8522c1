use Rattle.std.proofs.Common.{◌≡◌, ◌++◌, length}
use Rattle.mlsign_engine.specs.Pem.{wrapped}
use Rattle.mlsign_engine.proofs.pem.put_wrapped.Given as goal

-- what is written and what is still to be written
abbrev pub invariant-loop-rest : goal.invariant-loop-rest
invariant-loop-rest l = l.out.items ++ wrapped l.ending l.rest ≡ l.fn.out.items ++ wrapped l.ending l.text

abbrev pub decreases-loop-rest : goal.decreases-loop-rest
decreases-loop-rest l = length l.rest
