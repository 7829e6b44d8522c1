use Rattle.std.proofs.Common.{arith}
use Rattle.fips204_base.proofs.Names.{ints, congruent_refl, congruent_trans, congruent_mul, residue_add, residue_sub}
use Rattle.fips204_base.proofs.ntt.BackwardsButterfly.apply.Goals as goal

pub returns-clause-values : goal.returns-clause-values
returns-clause-values g c = λ j h. record {
  sum = rw (c.add-x.ensures.value j h) (residue_add _ _);
  difference = congruent_trans (c.mul_neg_zeta-y.ensures.value j h) (congruent_mul (congruent_refl 8380416) (congruent_mul (congruent_refl _) (rw (c.sub-t.ensures.value j h) (residue_sub _ _))));
  sum_small = rw (c.add-x.ensures.value j h) (omega (arith, ints));
  difference_small = c.mul_neg_zeta-y.ensures.small j h;
}
