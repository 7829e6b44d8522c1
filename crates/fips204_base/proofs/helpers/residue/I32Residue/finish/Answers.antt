use Rattle.std.proofs.Common.{rules}
use Rattle.fips204_base.proofs.helpers.residue.I32Residue.finish.Goals as goal

pub returns-then-near-lt0 : goal.returns-then-near-lt0
returns-then-near-lt0 c = search rules
