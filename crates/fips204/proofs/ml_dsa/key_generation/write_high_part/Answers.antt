use Rattle.std.proofs.Common.{rules, ◌∙◌}
use Rattle.fips204.proofs.Names.{vector-within, vector_of-ext, set_of}
use Rattle.fips204.proofs.ParameterSets.{eta-small, matrix-shape}
use Rattle.fips204.proofs.KeyGeneration.{key_parts-are, high_part-range, key_sum}
use Rattle.fips204.proofs.ml_dsa.key_generation.write_high_part.Goals as goal

pub write_matrix_product-requires : goal.write_matrix_product-requires
write_matrix_product-requires g c =
    let shape = matrix-shape c.args.p.now g.row.K g.row.L (search rules) c.requires.rows c.requires.columns in
    let eta = eta-small c.args.p.now (search rules) in
    (search rules, (search rules, (search rules, (search rules, (shape.1, (c.requires.matrix, vector-within _ _ _ _ _ eta eta c.requires.first))))))

pub write_sum-requires : goal.write_sum-requires
write_sum-requires g c =
    let eta = eta-small c.args.p.now (search rules) in
    (search rules, (c.write_matrix_product.ensures.range, vector-within _ _ _ _ _ eta eta c.requires.second))

pub returns : goal.returns
returns g c =
    let p = set_of c.args.p.now in
    let a = c.args.a_hat.now in
    let s1 = c.args.s1.now in
    let s2 = c.args.s2.now in
    let sum = c.write_sum.ensures.values ∙ vector_of-ext g.row.K _ _ (λ r n h l. key_sum g.row.L a s1 s2 r n _ (c.write_matrix_product.ensures.values r n h l)) in
    let parts = key_parts-are p a s1 s2 c.write_sum.new.t c.write_power2round.new.high c.write_power2round.new.r g.row.K g.row.L
    c.requires.rows c.requires.columns sum c.write_power2round.ensures.high c.write_power2round.ensures.low in
    record { value = parts.0; range = rw (parts.0, c.requires.rows) (high_part-range p a s1 s2) }
