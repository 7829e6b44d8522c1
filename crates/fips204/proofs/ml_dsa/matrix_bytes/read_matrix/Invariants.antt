use Rattle.fips204.specs.PreparedBytes.{IsRow, row_bytes}
use Rattle.fips204.proofs.MatrixBytes.{Reads}
use Rattle.fips204.proofs.ml_dsa.matrix_bytes.read_matrix.Given as goal

abbrev pub invariant-loop-r : goal.invariant-loop-r
invariant-loop-r g l = Reads (IsRow g.row.L) row_bytes g.row.K l.size l.r l.bytes l.a
