use Rattle.std.proofs.Common.{ℕ, ◌≡◌, ◌<◌, ◌≤◌, ◌-◌, ◌+◌, length, slice_index_or, Some}
use Rattle.fips204_base.proofs.hashing.sampler.Sampler.write_all.Given as goal

abbrev pub invariant-loop-done : goal.invariant-loop-done
invariant-loop-done g l = record {
  within : l.done ≤ length l.values;
  made : (j : ℕ) (d : g.row.Self-Value.Denot) → j < l.done → g.Self.Sampler.made l.self (g.X.Xof.front (g.Self.Sampler.seed l.self (l.n + j))) ≡ Some (slice_index_or l.values j d);
}

abbrev pub decreases-loop-done : goal.decreases-loop-done
decreases-loop-done g l = length l.values - l.done
