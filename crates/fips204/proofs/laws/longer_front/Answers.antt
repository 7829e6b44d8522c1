use Rattle.std.proofs.Common.{arith}
use Rattle.fips204.proofs.LongerFronts.{longer_fronts_keep}
use Rattle.fips204.proofs.laws.longer_front.Goals as goal

pub returns : goal.returns
returns g c = longer_fronts_keep g.H.Xof.front g.G.Xof.front g.LongerH.Xof.front g.LongerG.Xof.front (λ input. omega (arith, g.met.H.Xof.front_size input, g.met.H.Xof.front_least))
