use Rattle.std.proofs.Common.{◌≡◌, ◌*◌, ◌∙◌, sym, arith, w32, to_z, of_z, None, rules}
use Rattle.fips204_base.proofs.Names.{IsPolynomial, bytes_at_integers, common_steps, packed, piece-sliced, range_at_integers, read_all, reads_more, to_z-of_z, unread}
use Rattle.fips204_base.proofs.Packing.{length-polynomial_bytes}
use Rattle.fips204_base.specs.declared.types.TheConstants.{R0}
use Rattle.fips204_base.proofs.encodings.vectors.write_unpacked_short_vector.Goals as goal

pub loop-i-init : goal.loop-i-init
loop-i-init g c = grind (arith, common_steps, c.told-v)

pub returns-in_err-write_unpacked_short_polynomial : goal.returns-in_err-write_unpacked_short_polynomial
returns-in_err-write_unpacked_short_polynomial g c =
    let none : c.from_residual.result ≡ None = search rules in
    rw none (λ v found.
    let E = to_z-of_z w32 c.args.eta c.ranges.eta in
    let e = c.polynomial_size-size.ensures.size in
    let size = c.polynomial_size-size.result in
    let size_is = rw E at e in
    let range = range_at_integers c.args.eta c.args.eta v c.requires.bounds found.0.range in
    let refused = rw E at c.in_err-write_unpacked_short_polynomial.ensures in
    unread (IsPolynomial c.args.eta c.args.eta) (packed c.args.eta c.args.eta) g.row.N size c.loop-i.i c.args.bytes.now R0 (λ w is. length-polynomial_bytes c.args.eta c.args.eta w.0 is.1 ∙ sym size_is) c.loop-i-test.true
    (λ w is same. refused w (is.0, is.1, same ∙ sym (piece-sliced size (size * c.loop-i.i) c.args.bytes.now)))
    v (found.0.rows, λ j d h. (range j d h, found.0.places j d h)) (sym (bytes_at_integers c.args.eta c.args.eta v c.requires.bounds) ∙ found.1))

pub loop-i-preserved : goal.loop-i-preserved
loop-i-preserved g c =
    let w = c.in_ok-write_unpacked_short_polynomial.ensures in
    let size = c.polynomial_size-size.result in
    let eta = to_z w32 (of_z w32 c.args.eta) in
    reads_more (IsPolynomial eta eta) (packed eta eta) g.row.N size c.loop-i.i c.args.bytes.now c.loop-i.v c.write_unpacked_short_polynomial.new.w c.loop-i.invariant c.loop-i-test.true
    (w.2 ∙ piece-sliced size (size * c.loop-i.i) c.args.bytes.now) (w.0, w.1)

pub returns : goal.returns
returns g c =
    let E = to_z-of_z w32 c.args.eta c.ranges.eta in
    read_all g.row.N c.args.eta c.args.eta c.polynomial_size-size.result c.loop-i.i c.args.bytes.now c.loop-i.v c.requires.bounds (rw E at c.loop-i.invariant)
    (omega (arith, c.loop-i-test.false, c.loop-i.auto.i-end)) (rw E at c.polynomial_size-size.ensures.size) c.requires.room
