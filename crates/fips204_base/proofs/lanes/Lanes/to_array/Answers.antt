use Rattle.std.proofs.Common.{◌∙◌, arith}
use Rattle.fips204_base.proofs.Names.{readback}
use Rattle.fips204_base.proofs.lanes.Lanes.to_array.Goals as goal

pub returns : goal.returns
returns c = readback c.self.inside.0 (λ j h. c.self.invariant.fits j (omega (arith, h, c.self.invariant.eight))) ∙ c.self.view_is
