use Rattle.std.proofs.Common.{refl}
use Rattle.fips204_base.specs.Packing.{bit_length}
use Rattle.mldsa_c.proofs.sets.lengths_of.Goals as goal

pub returns-in-MlDsa44 : goal.returns-in-MlDsa44
unfolding bit_length
returns-in-MlDsa44 c = rw c.in-MlDsa44.is refl

pub returns-in-MlDsa65 : goal.returns-in-MlDsa65
unfolding bit_length
returns-in-MlDsa65 c = rw c.in-MlDsa65.is refl

pub returns-in-MlDsa87 : goal.returns-in-MlDsa87
unfolding bit_length
returns-in-MlDsa87 c = rw c.in-MlDsa87.is refl
