use Rattle.std.proofs.Common.{◌≡◌, length, take, false}
use Rattle.std.specs.Io.KnownBytes.{Consumes}
use Rattle.mldsa_engine.specs.LineSteps.{HasNoEnd}
use Rattle.mldsa_engine.proofs.lines.read_singly.Given as goal

abbrev pub invariant-loop-length : goal.invariant-loop-length
invariant-loop-length g l = (l.input.failed ≡ false) × (length l.room ≡ length l.initial.room) × HasNoEnd (take l.length l.room)
    × Consumes (g.I.Read.remaining l.initial.input.device) (g.I.Read.remaining l.input.device) (take l.length l.room)
