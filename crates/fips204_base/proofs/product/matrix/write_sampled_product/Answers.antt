use Rattle.std.proofs.Common.{◌≡◌, ◌≢◌, ℕ, ◌<◌, ◌∙◌, [], arith, rules, get_or}
use native.Mathlib.Decide.{dec_lt}
use Rattle.fips204_base.proofs.Names.{sampled_row, plain_row, row_product, sampled_matrix, vector_coefficients, matrix_product, all_present-each, row-same, row-within}
use Rattle.fips204_base.proofs.product.matrix.write_sampled_product.Goals as goal

pub loop-r-init : goal.loop-r-init
loop-r-init g c = record { values = λ i h. absurd (omega (arith, h)); ahead = λ j d within four h. absurd (within (omega arith)) }

pub write_row_product-requires : goal.write_row_product-requires
write_row_product-requires g c =
    (omega (arith, c.requires.shape.1), (search (arith, c.requires.shape.1, rules), ((omega (arith, c.loop-r-test.true, c.requires.shape.0), c.requires.shape.1), (row-within g.G.Xof.front c.args.rho.now g.row.L c.loop-r.r c.write_next_row.new.row c.in_ok-write_next_row.ensures.0))))

pub loop-r-preserved : goal.loop-r-preserved
loop-r-preserved g c = record {
  values = λ i h. elim (dec_lt i c.loop-r.r) [
    | yes before ↦
        let known = c.loop-r.invariant.values i before in
        let other : i ≢ c.loop-r.r = λ e. omega (arith, before, e) in
        (known.0, known.1, λ n l. c.write_row_product.ensures.kept i n other (omega (arith, before, c.loop-r-test.true, c.requires.shape.0)) l ∙ known.2 n l)
    | no now ↦
        let here : i ≡ c.loop-r.r = omega (arith, h, now) in
        rw here (
          c.write_next_row.new.row,
          c.in_ok-write_next_row.ensures.0,
          c.write_row_product.ensures.product,
        )
  ];
  ahead = c.in_ok-write_next_row.ensures.1;
}

pub returns : goal.returns
unfolding sampled_matrix matrix_product row_product
returns g c =
    let end : c.loop-r.r ≡ g.row.K = omega (arith, c.loop-r-test.false, c.loop-r.auto.r-end) in
    let row = sampled_row g.G.Xof.front c.args.rho.now g.row.L in
    let rows = all_present-each (λ i x. (n : ℕ) → n < 256 → vector_coefficients c.loop-r.v i n ≡ row_product g.row.L (plain_row x) (plain_row c.write_values.new.out) n) row g.row.K [] (λ i h. c.loop-r.invariant.values i (omega (arith, h, end))) in
    (rows.0, rows.1, λ r n h l. rows.2 r h n l ∙ row-same g.row.L (plain_row (get_or rows.0 r [])) (plain_row c.write_values.new.out) (vector_coefficients c.args.v.now) n c.write_values.ensures l)
