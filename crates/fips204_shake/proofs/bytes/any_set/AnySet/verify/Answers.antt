use Rattle.fips204_shake.proofs.bytes.any_set.AnySet.verify.Goals as goal

pub returns-in-MlDsa87 : goal.returns-in-MlDsa87
returns-in-MlDsa87 g c = rw c.in-MlDsa87.is c.verify-in-MlDsa87.ensures
