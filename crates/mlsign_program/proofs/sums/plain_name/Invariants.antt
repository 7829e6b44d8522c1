use Rattle.std.proofs.Common.{string_bytes}
use Rattle.mlsign_program.proofs.Names.{IsRead}
use Rattle.mlsign_program.proofs.sums.plain_name.Given as goal

abbrev pub invariant-loop-character : goal.invariant-loop-character
invariant-loop-character l = IsRead (string_bytes l.name) l.yielded l.is_escape l.has_escape
