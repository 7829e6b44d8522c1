use Rattle.fips204_shake.specs.Keys.{Seed}
use Rattle.mldsa_c.proofs.KeyFiles.{public_file, seed_file}
use Rattle.mldsa_c.proofs.callers.written_keys_are_read.Goals as goal

pub returns-clause-public : goal.returns-clause-public
returns-clause-public c = λ set key none der old new status writes size reads. reads.only key (public_file set key none der writes) size

pub returns-clause-seed : goal.returns-clause-seed
returns-clause-seed c = λ set seed none der old new status writes size reads. reads.only (Seed seed) (seed_file set seed none der writes) size
