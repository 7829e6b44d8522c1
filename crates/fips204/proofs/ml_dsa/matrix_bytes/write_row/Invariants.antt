use Rattle.std.proofs.Common.{◌≡◌, ◌*◌, take, length}
use Rattle.std.specs.List.{flat_map}
use Rattle.fips204.specs.PreparedBytes.{entry_bytes}
use Rattle.fips204.proofs.ml_dsa.matrix_bytes.write_row.Given as goal

abbrev pub invariant-loop-s : goal.invariant-loop-s
invariant-loop-s g l = record {
  size : length l.out ≡ length l.fn.out;
  written : take (1024 * l.s) l.out ≡ flat_map entry_bytes (take l.s l.row);
}
