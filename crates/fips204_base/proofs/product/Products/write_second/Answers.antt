use Rattle.std.proofs.Common.{rules, ◌∙◌, arith, sym, IsTrue}
use Rattle.fips204_base.proofs.PlainTransforms.{multiple-within}
use Rattle.fips204_base.proofs.Vectors.{vector_of-ext}
use Rattle.fips204_base.proofs.product.Products.write_second.Goals as goal

pub returns-then-this-le4-clause-value : goal.returns-then-this-le4-clause-value
returns-then-this-le4-clause-value g c =
    let there : IsTrue c.self.inside.has_second = search rules in
    rw (sym c.self.view_is) (c.write_last_lanes.ensures ∙ vector_of-ext g.row.N _ _ (λ r n h l. c.self.invariant there r n (omega (arith, h, c.if-this-le4.true)) l))

pub returns-then-this-le4-clause-range : goal.returns-then-this-le4-clause-range
returns-then-this-le4-clause-range g c = multiple-within g.row.N c.args.self.now.factor c.args.self.now.second c.write_last_lanes.new.out (returns-then-this-le4-clause-value g c)
