use Rattle.std.proofs.Common.{◌∙◌, ap, pos}
use Rattle.fips204.proofs.Names.{matrix-same, vector_of-ext}
use Rattle.fips204.proofs.KeyGeneration.{key_sum}
use Rattle.fips204.proofs.ml_dsa.key_generation.write_key_vector.Goals as goal

pub returns-clause-values : goal.returns-clause-values
returns-clause-values g c =
    let sampled = c.in_ok-write_sampled_product.ensures in
    let s1 = c.args.s1.now in (
      sampled.0,
      sampled.1,
      c.write_sum.ensures.values ∙ vector_of-ext g.row.K _ _ (λ r n h l.
          key_sum g.row.L sampled.0 s1 c.args.s2.now r n _ (c.write_plain.ensures.values r n h l ∙ ap pos (sampled.2 r n h l ∙ matrix-same g.row.L sampled.0 c.write_transforms.new.self s1 r n c.write_transforms.ensures l))),
    )
