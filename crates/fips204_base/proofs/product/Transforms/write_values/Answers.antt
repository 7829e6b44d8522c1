use Rattle.std.proofs.Common.{arith, sym}
use Rattle.fips204_base.proofs.Names.{plain-values}
use Rattle.fips204_base.proofs.product.Transforms.write_values.Goals as goal

pub returns : goal.returns
returns g c = rw (sym c.self.view_is) (λ k n h l.
    plain-values c.write_values.new.out c.self.inside.values k n (omega (arith, h, c.requires)) l (λ i p. c.write_values.ensures.values k i h p))
