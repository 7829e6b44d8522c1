use Rattle.std.proofs.Common.{ℕ, ℤ, ◌<◌, ◌≤ℤ◌, slice_index_or}
use Rattle.fips204_base.proofs.hashing.matrix.are_below_q.Given as goal

abbrev pub invariant-loop-p : goal.invariant-loop-p
invariant-loop-p l = (j : ℕ) (d : ℤ) → j < l.p → slice_index_or l.values j d ≤ℤ l.most
