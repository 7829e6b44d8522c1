use Rattle.fips204_base.proofs.Names.{common_steps, to_z-of_z, ints, take_all, length-put_mid, put_piece, piece-within, piece_more, bytes_at_integers}
use Rattle.std.proofs.Common.{arith, length-take, length-drop, rules}
use Rattle.fips204_base.proofs.encodings.vectors.write_packed_vector.Goals as goal

pub overflow_add-at : goal.overflow_add-at
overflow_add-at g c = search rules

pub slice_bounds-write_packed_by_range-end : goal.slice_bounds-write_packed_by_range-end
slice_bounds-write_packed_by_range-end g c = grind (arith, ints, common_steps, to_z-of_z, piece-within)

pub loop-i-preserved : goal.loop-i-preserved
loop-i-preserved g c = grind (arith, ints, common_steps, to_z-of_z, piece-within, length-take, length-drop, length-put_mid, put_piece, piece_more)

pub returns : goal.returns
returns g c = grind (arith, ints, common_steps, to_z-of_z, take_all, bytes_at_integers)

pub overflow_mul-at : goal.overflow_mul-at
overflow_mul-at g c = grind arith

pub write_packed_by_range-requires-clause-range : goal.write_packed_by_range-requires-clause-range
write_packed_by_range-requires-clause-range g c = grind arith
