use Rattle.std.proofs.Common.{◌≡◌, false, length, take, map}
use Rattle.mldsa_engine.specs.Lines.{AllFit, TakesLines}
use Rattle.mldsa_engine.proofs.lines.read_lines.Given as goal

abbrev pub invariant-loop-length : goal.invariant-loop-length
invariant-loop-length g l = (l.input.failed ≡ false) × (length l.lines.items ≡ l.length-index)
    × AllFit (take l.length-index l.wanted) (map (λ line. line.items) l.lines.items)
    × TakesLines l.fn.first (take l.length-index l.wanted) (g.I.Read.remaining l.initial.input.device) (g.I.Read.remaining l.input.device)
    (map (λ line. line.items) l.lines.items)
