use Rattle.std.proofs.Common.{◌++◌, take}
use Rattle.fips204_base.proofs.Names.{kept_triples, Keeps}
use Rattle.fips204_base.proofs.hashing.matrix.TriplesDraws.write_kept.Given as goal

abbrev pub invariant-loop-p : goal.invariant-loop-p
invariant-loop-p l = Keeps l.values l.kept (take l.count l.fn.values ++ kept_triples l.piece l.p)
