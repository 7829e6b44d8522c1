use Rattle.std.proofs.Common.{◌≡◌, ◌<◌, ℕ, [], length, slice_index, slice_index_or}
use Rattle.shake.proofs.four.state_at.Given as goal

abbrev pub invariant-loop-index : goal.invariant-loop-index
invariant-loop-index l = record {
  size : length l.state ≡ 25;
  written : (i : ℕ) → i < l.index → slice_index l.state i ≡ slice_index (slice_index_or l.states i []) l.j;
}
