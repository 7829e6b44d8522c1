use Rattle.std.proofs.Common.{◌≡◌, take, pos}
use Rattle.fips204_base.proofs.Names.{norm}
use Rattle.fips204_base.proofs.helpers.norm.norm.Given as goal

abbrev pub invariant-loop-x : goal.invariant-loop-x
invariant-loop-x l = l.most ≡ pos (norm (take l.x-index l.w.0))
