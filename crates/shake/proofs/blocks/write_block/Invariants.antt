use Rattle.std.proofs.Common.{◌≡◌, ◌*◌, length, take}
use Rattle.shake.specs.Shake.{bytes}
use Rattle.shake.proofs.blocks.write_block.Given as goal

abbrev pub invariant-loop-index : goal.invariant-loop-index
invariant-loop-index l = record {
  size : length l.block ≡ length l.fn.block;
  written : take (8 * l.index) l.block ≡ take (8 * l.index) (bytes l.state);
}
