use Rattle.std.proofs.Common.{◌≡◌, ◌*◌, take, length, w32}
use Rattle.std.specs.Int.{to_le_bytes}
use Rattle.std.specs.List.{flat_map}
use Rattle.mldsa_c.proofs.sets.write_numbers.Given as goal

abbrev pub invariant-loop-n : goal.invariant-loop-n
invariant-loop-n l = record {
  size : length l.out ≡ length l.fn.out;
  written : take (4 * l.n) l.out ≡ flat_map (to_le_bytes w32) (take l.n l.numbers);
}
