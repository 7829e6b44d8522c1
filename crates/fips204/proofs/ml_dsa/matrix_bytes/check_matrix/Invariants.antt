use Rattle.std.proofs.Common.{List}
use Rattle.fips204_base.specs.declared.types.T.{T}
use Rattle.fips204.specs.PreparedBytes.{IsRow, row_bytes}
use Rattle.fips204.proofs.MatrixBytes.{Reads}
use Rattle.fips204.proofs.ml_dsa.matrix_bytes.check_matrix.Given as goal

abbrev pub invariant-loop-r : goal.invariant-loop-r
invariant-loop-r g l = (a : List (List T)) × Reads (IsRow g.row.L) row_bytes g.row.K l.size l.r l.bytes a
