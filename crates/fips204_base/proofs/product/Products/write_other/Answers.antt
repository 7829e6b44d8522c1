use Rattle.std.proofs.Common.{◌∙◌, arith, sym}
use Rattle.fips204_base.proofs.PlainTransforms.{multiple-within}
use Rattle.fips204_base.proofs.Vectors.{vector_of-ext}
use Rattle.fips204_base.proofs.product.Products.write_other.Goals as goal

pub returns-clause-value : goal.returns-clause-value
returns-clause-value g c = rw (sym c.self.view_is) (c.write_lanes.ensures ∙ vector_of-ext g.row.N _ _ (λ r n h l. c.write_multiple.ensures r n (omega (arith, h, c.requires)) l))

pub returns-clause-range : goal.returns-clause-range
returns-clause-range g c = multiple-within g.row.N c.args.self.now.factor c.args.v.now c.write_lanes.new.out (returns-clause-value g c)
