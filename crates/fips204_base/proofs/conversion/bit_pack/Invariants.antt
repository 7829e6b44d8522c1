use Rattle.std.proofs.Common.{◌≡◌, ◌*◌, take, length, map}
use Rattle.fips204_base.proofs.Names.{Packs, field}
use Rattle.fips204_base.proofs.conversion.bit_pack.Given as goal

abbrev pub invariant-loop-i : goal.invariant-loop-i
invariant-loop-i l = record {
  long : length l.out ≡ 32 * l.c;
  so_far : Packs l.c (take (l.c * l.i) l.out) (map (field l.fn.a l.fn.b) (take (8 * l.i) l.fn.w.0));
}
