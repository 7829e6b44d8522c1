use Rattle.std.proofs.Common.{length, ◌-◌, ◌≤◌, ◌++◌, ℕ, List, take}
use Rattle.shake.specs.Shake.{IsAbsorbed}
use Rattle.shake.proofs.sponge.Shake.update.Given as goal

abbrev pub invariant-loop-taken : goal.invariant-loop-taken
invariant-loop-taken g l = record {
  within : l.taken ≤ length l.input;
  held : (m : List ℕ) → IsAbsorbed g.row.R l.fn.self.lanes l.fn.self.block l.fn.self.used m
      → IsAbsorbed g.row.R l.self.lanes l.self.block l.self.used (m ++ take l.taken l.input);
}

abbrev pub decreases-loop-taken : goal.decreases-loop-taken
decreases-loop-taken g l = length l.input - l.taken
