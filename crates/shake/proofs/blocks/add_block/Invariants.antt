use Rattle.std.proofs.Common.{◌≡◌, ℕ, ◌<◌, ◌≤◌, length, get_or}
use Rattle.shake.specs.Keccak.{◌⊕◌}
use Rattle.shake.specs.Shake.{block_lane}
use Rattle.shake.proofs.blocks.add_block.Given as goal

abbrev pub invariant-loop-index : goal.invariant-loop-index
invariant-loop-index l = record {
  size : length l.state ≡ 25;
  added : (k : ℕ) → k < l.index → get_or l.state k 0 ≡ get_or l.fn.state k 0 ⊕ block_lane l.block k;
  kept : (k : ℕ) → l.index ≤ k → get_or l.state k 0 ≡ get_or l.fn.state k 0;
}
