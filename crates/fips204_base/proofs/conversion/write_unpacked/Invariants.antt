use Rattle.std.proofs.Common.{◌≡◌, ◌*◌, take, length, map}
use Rattle.fips204_base.proofs.Names.{All, Packs, coefficient, field}
use Rattle.fips204_base.proofs.conversion.write_unpacked.Given as goal

abbrev pub invariant-loop-i : goal.invariant-loop-i
invariant-loop-i l = record {
  long : length l.w.0 ≡ 256;
  so_far : Packs l.c (take (l.c * l.i) l.v) (map (field l.fn.a l.fn.b) (take (8 * l.i) l.w.0));
  coefficients : All (λ x. coefficient l.fn.a l.fn.b (field l.fn.a l.fn.b x) ≡ x) (take (8 * l.i) l.w.0);
}
