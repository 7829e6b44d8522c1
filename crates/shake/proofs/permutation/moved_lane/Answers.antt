use Rattle.shake.proofs.Planes.{moved_is}
use Rattle.shake.proofs.permutation.moved_lane.Goals as goal

pub returns : goal.returns
returns c = rw (c.rotate_left.ensures, c.requires.effects) (moved_is c.args.a.now c.args.x c.args.y c.requires.place.0 c.requires.place.1)
