use Rattle.std.proofs.Common.{◌≡◌, ◌*◌, take, length}
use Rattle.fips204_base.proofs.Names.{flat_map, polynomial_bytes}
use Rattle.fips204_base.proofs.encodings.vectors.write_packed_vector.Given as goal

abbrev pub invariant-loop-i : goal.invariant-loop-i
invariant-loop-i g l = record {
  size : length l.out ≡ length l.fn.out;
  written : take (l.size * l.i) l.out ≡ flat_map (λ w. polynomial_bytes l.fn.a l.fn.b w.0) (take l.i l.v);
}
