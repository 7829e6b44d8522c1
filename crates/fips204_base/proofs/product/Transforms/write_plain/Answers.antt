use Rattle.std.proofs.Common.{◌<◌, ◌≤◌, ◌∙◌, ℤ, List, [], pos, arith, ap, sym, subst}
use Rattle.fips204_base.proofs.Names.{nat_abs, residues, lane_values, vector_coefficients, coefficient_of, plain-at}
use Rattle.fips204_base.proofs.Products.{inverse_below}
use Rattle.fips204_base.proofs.Vectors.{vector_of-entry, vector_of-ext}
use Rattle.fips204_base.proofs.product.Transforms.write_plain.Goals as goal

pub invariant_of-self : goal.invariant_of-self
invariant_of-self g c = λ i j d h l.
    let below = inverse_below (residues (λ (x : List ℤ). x) j d c.self.inside.values) i in
    subst (λ x. nat_abs x ≤ 8380416) (sym (c.write_lanes_inv_ntt.ensures.values i j d h l)) (omega (arith, below))

pub returns-clause-whole : goal.returns-clause-whole
returns-clause-whole g c = rw (sym c.self.view_is) (c.write_lanes.ensures ∙ vector_of-ext g.row.N _ _ (λ r n h l.
    let lane : r < 8 = omega (arith, h, c.requires) in
    c.write_lanes_inv_ntt.ensures.values n r [] l lane ∙ ap pos (sym (plain-at c.self.inside.values r n lane l))))

pub returns-clause-values : goal.returns-clause-values
returns-clause-values g c = λ r n h l. ap (λ v. coefficient_of v r n) (returns-clause-whole g c) ∙ vector_of-entry g.row.N (λ r n. pos (vector_coefficients c.args.self.now r n)) r n h l

pub returns-clause-range : goal.returns-clause-range
returns-clause-range g c = λ r n h l.
    let lane : r < 8 = omega (arith, h, c.requires) in
    let below = inverse_below (lane_values c.self.inside.values r) n in
    subst (λ x. nat_abs x ≤ 8380416) (sym (ap (λ v. coefficient_of v r n) c.write_lanes.ensures ∙ vector_of-entry g.row.N _ r n h l ∙ c.write_lanes_inv_ntt.ensures.values n r [] l lane)) (omega (arith, below))
