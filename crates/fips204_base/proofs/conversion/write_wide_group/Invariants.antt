use Rattle.std.proofs.Common.{◌≡◌, take, length, map}
use Rattle.std.specs.List.{range_with_len}
use Rattle.fips204_base.proofs.Names.{All, HasField, bits, field, field_at, width}
use Rattle.fips204_base.proofs.conversion.write_wide_group.Given as goal

abbrev pub invariant-loop-i : goal.invariant-loop-i
invariant-loop-i l = record {
  long : length l.out ≡ 8;
  so_far : map (field l.fn.a l.fn.b) (take l.i l.out) ≡ map (field_at (width l.fn.a l.fn.b) (bits 8 l.v)) (range_with_len 0 l.i);
  fields : All (HasField l.fn.a l.fn.b) (take l.i l.out);
}
