use Rattle.std.proofs.Common.{◌≡◌, ◌<◌, ℕ, List, [], get_or}
use Rattle.fips204_base.specs.declared.types.T.{T}
use Rattle.fips204_base.specs.PlainTransforms.{plain_row, row_product}
use Rattle.fips204_base.specs.Vectors.{vector_coefficients}
use Rattle.fips204.specs.PreparedBytes.{IsRow, row_bytes}
use Rattle.fips204.proofs.MatrixBytes.{Reads}
use Rattle.fips204.proofs.ml_dsa.matrix_bytes.write_read_product.Given as goal

abbrev pub invariant-loop-r : goal.invariant-loop-r
invariant-loop-r g l = (a : List (List T)) × Reads (IsRow g.row.L) row_bytes g.row.K l.size l.r l.bytes a
    × ((i n : ℕ) → i < l.r → n < 256 → vector_coefficients l.v i n ≡ row_product g.row.L (plain_row (get_or a i [])) (plain_row l.values) n)
