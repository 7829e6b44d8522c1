use Rattle.std.proofs.Common.{◌≡◌, length}
use Rattle.std.specs.Str.{bytes_eq}
use Rattle.mlsign_engine.specs.Pem.{wrapped}
use Rattle.mlsign_engine.proofs.pem.is_wrapped.Given as goal

-- the symbols that are left are compared with the text that is left
abbrev pub invariant-loop-left : goal.invariant-loop-left
invariant-loop-left l = bytes_eq (wrapped l.ending l.left) l.rest ≡ bytes_eq (wrapped l.ending l.symbols) l.text

abbrev pub decreases-loop-left : goal.decreases-loop-left
decreases-loop-left l = length l.left
