use Rattle.fips204_base.proofs.Residues.{size_at}
use Rattle.mldsa_bench.proofs.arithmetic.lanes.row.Goals as goal

pub returns : goal.returns
returns c = λ j h. rw (c.from_array.ensures) (size_at 8380416 c.within.result j c.within.ensures)
