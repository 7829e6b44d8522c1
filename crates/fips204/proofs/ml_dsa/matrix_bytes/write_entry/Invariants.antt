use Rattle.std.proofs.Common.{◌≡◌, ◌*◌, take, length}
use Rattle.std.specs.List.{flat_map}
use Rattle.fips204.proofs.MatrixBytes.{value_bytes}
use Rattle.fips204.proofs.ml_dsa.matrix_bytes.write_entry.Given as goal

abbrev pub invariant-loop-n : goal.invariant-loop-n
invariant-loop-n l = record {
  size : length l.out ≡ length l.fn.out;
  written : take (4 * l.n) l.out ≡ flat_map value_bytes (take l.n l.t.0);
}
