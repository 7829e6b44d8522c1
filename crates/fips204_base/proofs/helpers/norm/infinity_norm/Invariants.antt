use Rattle.std.proofs.Common.{◌≡◌, take, pos}
use Rattle.fips204_base.proofs.Names.{vector_norm}
use Rattle.fips204_base.proofs.helpers.norm.infinity_norm.Given as goal

abbrev pub invariant-loop-polynomial : goal.invariant-loop-polynomial
invariant-loop-polynomial g l = l.most ≡ pos (vector_norm (take l.polynomial-index l.w))
