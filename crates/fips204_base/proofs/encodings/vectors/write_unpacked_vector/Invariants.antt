use Rattle.fips204_base.proofs.Names.{IsPolynomial, Reads, packed}
use Rattle.fips204_base.proofs.encodings.vectors.write_unpacked_vector.Given as goal

abbrev pub invariant-loop-i : goal.invariant-loop-i
invariant-loop-i g l = Reads (IsPolynomial l.fn.a l.fn.b) (packed l.fn.a l.fn.b) g.row.N l.size l.i l.bytes l.v
