use Rattle.std.proofs.Common.{◌*◌, ◌∙◌, ap, sym, arith, length, w32, to_z, of_z, rules}
use Rattle.fips204_base.proofs.Names.{IsPolynomial, common_steps, packed, piece-sliced, piece-within, read_all, reads_more, to_z-of_z}
use Rattle.fips204_base.proofs.encodings.vectors.write_unpacked_vector.Goals as goal

pub overflow_add-at : goal.overflow_add-at
overflow_add-at g c = search rules

pub slice_bounds-write_unpacked_polynomial-end : goal.slice_bounds-write_unpacked_polynomial-end
slice_bounds-write_unpacked_polynomial-end g c =
    let e = c.polynomial_size-size.ensures.size in
    let size_is = rw (to_z-of_z w32 c.args.a c.ranges.a, to_z-of_z w32 c.args.b c.ranges.b) at e in
    let within = piece-within c.polynomial_size-size.result c.loop-i.i g.row.N (length c.args.bytes.now) (c.requires.room ∙ ap (λ s. s * g.row.N) (sym size_is)) c.loop-i-test.true in
    omega (arith, within)

pub loop-i-preserved : goal.loop-i-preserved
loop-i-preserved g c =
    let w = c.write_unpacked_polynomial.ensures in
    let size = c.polynomial_size-size.result in
    let A = to_z w32 (of_z w32 c.args.a) in
    let B = to_z w32 (of_z w32 c.args.b) in
    reads_more (IsPolynomial A B) (packed A B) g.row.N size c.loop-i.i c.args.bytes.now c.loop-i.v c.write_unpacked_polynomial.new.w c.loop-i.invariant c.loop-i-test.true
    (w.same_bytes ∙ piece-sliced size (size * c.loop-i.i) c.args.bytes.now) (w.range, w.places)

pub returns : goal.returns
returns g c =
    let A = to_z-of_z w32 c.args.a c.ranges.a in
    let B = to_z-of_z w32 c.args.b c.ranges.b in
    let all = read_all g.row.N c.args.a c.args.b c.polynomial_size-size.result c.loop-i.i c.args.bytes.now c.loop-i.v c.requires.bounds (rw (A, B) at c.loop-i.invariant)
    (omega (arith, c.loop-i-test.false, c.loop-i.auto.i-end)) (rw (A, B) at c.polynomial_size-size.ensures.size) c.requires.room in
    record { vector = all.0; same_bytes = all.1 }

pub overflow_mul-at : goal.overflow_mul-at
overflow_mul-at g c = grind arith

pub loop-i-init : goal.loop-i-init
loop-i-init g c = grind (arith, common_steps, c.told-v)
