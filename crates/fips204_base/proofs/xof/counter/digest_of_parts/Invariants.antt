use Rattle.std.proofs.Common.{take}
use Rattle.fips204_base.proofs.Names.{flat_map}
use Rattle.fips204_base.proofs.xof.counter.digest_of_parts.Given as goal

abbrev pub invariant-loop-part : goal.invariant-loop-part
invariant-loop-part g l = g.D.Digest.holds l.hasher (flat_map (λ part. part.now) (take l.part-index l.parts))
