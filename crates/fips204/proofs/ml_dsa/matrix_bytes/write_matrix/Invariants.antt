use Rattle.std.proofs.Common.{◌≡◌, ◌*◌, take, length}
use Rattle.std.specs.List.{flat_map}
use Rattle.fips204.specs.PreparedBytes.{row_bytes}
use Rattle.fips204.proofs.ml_dsa.matrix_bytes.write_matrix.Given as goal

abbrev pub invariant-loop-r : goal.invariant-loop-r
invariant-loop-r g l = record {
  size : length l.out ≡ length l.fn.out;
  written : take (l.size * l.r) l.out ≡ flat_map row_bytes (take l.r l.a);
}
