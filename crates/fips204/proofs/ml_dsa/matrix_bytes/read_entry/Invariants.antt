use Rattle.fips204.proofs.MatrixBytes.{Reads, IsValue, value_bytes}
use Rattle.fips204.proofs.ml_dsa.matrix_bytes.read_entry.Given as goal

abbrev pub invariant-loop-n : goal.invariant-loop-n
invariant-loop-n l = Reads IsValue value_bytes 256 4 l.n l.bytes l.t.0
