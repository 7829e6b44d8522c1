use Rattle.fips204_base.proofs.Names.{IsPolynomial, Reads, packed}
use Rattle.fips204_base.proofs.encodings.vectors.write_unpacked_short_vector.Given as goal

abbrev pub invariant-loop-i : goal.invariant-loop-i
invariant-loop-i g l = Reads (IsPolynomial l.fn.eta l.fn.eta) (packed l.fn.eta l.fn.eta) g.row.N l.size l.i l.bytes l.v
