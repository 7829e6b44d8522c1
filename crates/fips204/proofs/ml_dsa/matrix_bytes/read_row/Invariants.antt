use Rattle.fips204.specs.PreparedBytes.{IsEntry, entry_bytes}
use Rattle.fips204.proofs.MatrixBytes.{Reads}
use Rattle.fips204.proofs.ml_dsa.matrix_bytes.read_row.Given as goal

abbrev pub invariant-loop-s : goal.invariant-loop-s
invariant-loop-s g l = Reads IsEntry entry_bytes g.row.L 1024 l.s l.bytes l.row
