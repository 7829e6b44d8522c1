use Rattle.shake.proofs.Absorbing.{absorbed_none}
use Rattle.shake.proofs.sponge.Shake.new.Goals as goal

pub returns : goal.returns
returns g c = absorbed_none g.row.R _
