use Rattle.std.proofs.Common.{pos, arith}
use Rattle.fips204_base.proofs.Names.{coefficients, residue_below, congruent_of, congruent_trans, factor-transformed, back_from_mont}
use Rattle.fips204_base.proofs.product.Factor.of.Goals as goal

pub returns : goal.returns
returns c = λ n l.
    factor-transformed c.loop-n.values (coefficients c.args.c.now.0) (λ i p.
    congruent_trans (congruent_of (back_from_mont _ _ (c.loop-n.invariant.values i (omega (arith, p, c.loop-n-test.false))) (residue_below _))) (c.write_ntt.ensures.values i 0 (pos 0) p (omega arith))) n l (residue_below _)
