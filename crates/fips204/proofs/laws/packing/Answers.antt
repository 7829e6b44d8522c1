use Rattle.fips204.proofs.Spellings.{packing_is_undone}
use Rattle.fips204.proofs.laws.packing.Goals as goal

pub returns : goal.returns
returns _ = packing_is_undone
