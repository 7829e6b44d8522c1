use Rattle.shake.specs.Keccak.{theta, rho, pi}
use Rattle.shake.proofs.Planes.{plane_is}
use Rattle.shake.proofs.permutation.plane.Goals as goal

pub returns : goal.returns
returns c =
    rw (c.moved_lane-b0.ensures, c.moved_lane-b1.ensures, c.moved_lane-b2.ensures, c.moved_lane-b3.ensures, c.moved_lane-b4.ensures)
    (plane_is (pi (rho (theta c.args.a.now))) c.args.y c.requires.place)
