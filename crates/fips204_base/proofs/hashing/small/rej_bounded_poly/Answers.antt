use Rattle.std.proofs.Common.{◌≡◌, Err, refl, rules, nat_abs, to_z, of_z}
use Rattle.fips204_base.proofs.Names.{w32, small_polynomial, SamplingLimit, of_parts, parts_long}
use Rattle.fips204_base.proofs.hashing.small.rej_bounded_poly.Goals as goal

pub write_polynomial-requires-clause-front : goal.write_polynomial-requires-clause-front
write_polynomial-requires-clause-front g c = parts_long 192 c.open-reader.ensures c.read.ensures.given c.read.ensures.dropped (g.met.H.Xof.front_size _)

pub returns-in_err-write_polynomial : goal.returns-in_err-write_polynomial
returns-in_err-write_polynomial g c =
    let eta : to_z w32 (of_z w32 c.args.eta) ≡ c.args.eta = search rules in
    let none = c.in_err-write_polynomial.ensures in
    let refused : c.from_residual.result ≡ Err SamplingLimit = search rules in
    rw (refused, of_parts (small_polynomial (nat_abs c.args.eta)) 192 c.open-reader.ensures c.read.ensures.given c.read.ensures.dropped (rw eta at none.0)) refl

pub returns : goal.returns
returns g c =
    let eta : to_z w32 (of_z w32 c.args.eta) ≡ c.args.eta = search rules in
    rw (of_parts (small_polynomial (nat_abs c.args.eta)) 192 c.open-reader.ensures c.read.ensures.given c.read.ensures.dropped (rw eta at c.in_ok-write_polynomial.ensures)) refl
