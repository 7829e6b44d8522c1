use Rattle.std.proofs.Common.{◌≡◌, ◌+◌, ◌-◌, ◌≤◌, length, false, vec_len}
use Rattle.std.specs.Io.KnownBytes.{Consumes}
use Rattle.mldsa_engine.specs.Lines.{longest_line}
use Rattle.mldsa_engine.specs.LineSteps.{HasNoEnd}
use Rattle.mldsa_engine.proofs.lines.read_line.Given as goal

abbrev pub invariant-loop-line : goal.invariant-loop-line
invariant-loop-line g l = (l.input.failed ≡ false) × (length l.line.items ≤ longest_line + 1) × HasNoEnd l.line.items
    × Consumes (g.I.Read.remaining l.initial.input.device) (g.I.Read.remaining l.input.device) l.line.items

abbrev pub decreases-loop-line : goal.decreases-loop-line
decreases-loop-line g l = longest_line + 1 - vec_len l.line
