use Rattle.std.proofs.Common.{◌≡◌, ◌<◌, ℕ, [], ◌∷◌, length, slice_index, slice_index_or}
use Rattle.shake.proofs.four.write_beside.Given as goal

abbrev pub invariant-loop-index : goal.invariant-loop-index
invariant-loop-index l = record {
  size : length l.states ≡ 25;
  written : (i : ℕ) → i < l.index → slice_index_or l.states i [] ≡ slice_index l.a i ∷ slice_index l.b i ∷ slice_index l.c i ∷ slice_index l.d i ∷ [];
}
