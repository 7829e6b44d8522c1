use Rattle.std.proofs.Common.{ℕ, ℤ, ◌≡◌, ◌<◌, ◌*◌, pos, slice_index_or}
use Rattle.fips204_base.specs.SamplerSteps.{number}
use Rattle.fips204_base.proofs.hashing.matrix.write_numbers.Given as goal

abbrev pub invariant-loop-n : goal.invariant-loop-n
invariant-loop-n l = (p : ℕ) (d : ℤ) → p < 4 * l.n → slice_index_or l.values p d ≡ pos (number l.triples p)
