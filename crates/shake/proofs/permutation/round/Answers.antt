use Rattle.std.proofs.Common.{refl}
use Rattle.shake.specs.Keccak.{chi, iota}
use Rattle.shake.proofs.permutation.round.Goals as goal

pub returns : goal.returns
unfolding chi iota
returns c = rw (c.plane.ensures, c.plane-2.ensures, c.plane-3.ensures, c.plane-4.ensures, c.plane-5.ensures) refl
