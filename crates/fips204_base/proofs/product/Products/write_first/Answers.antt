use Rattle.std.proofs.Common.{◌∙◌, arith, sym}
use Rattle.fips204_base.proofs.PlainTransforms.{multiple-within}
use Rattle.fips204_base.proofs.Vectors.{vector_of-ext}
use Rattle.fips204_base.proofs.product.Products.write_first.Goals as goal

pub returns-then-this-le4-clause-value : goal.returns-then-this-le4-clause-value
returns-then-this-le4-clause-value g c = rw (sym c.self.view_is) (c.write_lanes.ensures ∙ vector_of-ext g.row.N _ _ (λ r n h l. c.write_multiples.ensures.first r n (omega (arith, h, c.if-this-le4.true)) l))

pub returns-then-this-le4-clause-range : goal.returns-then-this-le4-clause-range
returns-then-this-le4-clause-range g c = multiple-within g.row.N c.args.self.now.factor c.args.self.now.first c.write_lanes.new.out (returns-then-this-le4-clause-value g c)
