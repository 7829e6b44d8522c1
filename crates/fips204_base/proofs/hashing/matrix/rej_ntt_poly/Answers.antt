use Rattle.std.proofs.Common.{◌≡◌, Err, refl, rules}
use Rattle.fips204_base.proofs.Names.{matrix_entry, SamplingLimit, of_parts, parts_long}
use Rattle.fips204_base.proofs.hashing.matrix.rej_ntt_poly.Goals as goal

pub write_entry-requires-clause-front : goal.write_entry-requires-clause-front
write_entry-requires-clause-front g c = parts_long 768 c.open-reader.ensures c.read.ensures.given c.read.ensures.dropped (g.met.G.Xof.front_size _)

pub returns-in_err-write_entry : goal.returns-in_err-write_entry
returns-in_err-write_entry g c =
    let none = c.in_err-write_entry.ensures in
    let refused : c.from_residual.result ≡ Err SamplingLimit = search rules in
    rw (refused, of_parts matrix_entry 768 c.open-reader.ensures c.read.ensures.given c.read.ensures.dropped none.0) refl

pub returns : goal.returns
returns g c =
    rw (of_parts matrix_entry 768 c.open-reader.ensures c.read.ensures.given c.read.ensures.dropped c.in_ok-write_entry.ensures) refl
