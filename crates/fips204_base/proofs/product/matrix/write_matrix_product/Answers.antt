use Rattle.std.proofs.Common.{◌∙◌, ap, pos}
use Rattle.fips204_base.proofs.Names.{matrix-same}
use Rattle.fips204_base.proofs.product.matrix.write_matrix_product.Goals as goal

pub returns-clause-values : goal.returns-clause-values
returns-clause-values g c = λ r n h l.
    c.write_plain.ensures.values r n h l
    ∙ ap pos (c.multiply_over.ensures r n h l ∙ matrix-same g.row.L c.args.a.now c.write_transforms.new.self c.args.v.now r n c.write_transforms.ensures l)
