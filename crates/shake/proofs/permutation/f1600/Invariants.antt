use Rattle.std.proofs.Common.{◌≡◌, ◌*◌}
use Rattle.shake.specs.Keccak.{rounds}
use Rattle.shake.proofs.permutation.f1600.Given as goal

abbrev pub invariant-loop-pair : goal.invariant-loop-pair
invariant-loop-pair l = l.a ≡ rounds l.fn.state (2 * l.pair)
