use Rattle.std.proofs.Common.{◌<◌, ◌≤◌, pos, arith, sym, subst, [], get_or}
use Rattle.fips204_base.proofs.Names.{nat_abs, All-from_get_or}
use Rattle.fips204_base.proofs.product.matrix.write_values.Goals as goal

pub returns-clause-small : goal.returns-clause-small
returns-clause-small g c = λ k d h.
    let out = c.loop-n.out in
    let column : k < g.row.L = omega (arith, h, c.loop-n.invariant.size) in
    All-from_get_or (λ x. nat_abs x ≤ 8380416) (get_or out k d).0 (pos 0) (λ n l.
    let place : n < 256 = omega (arith, l, c.loop-n.invariant.places k d column (omega (arith, c.loop-n-test.false))) in
    subst (λ x. nat_abs x ≤ 8380416) (sym (c.loop-n.invariant.values k n d [] column (omega (arith, place, c.loop-n-test.false)))) (c.requires.range n k [] place (omega (arith, column, c.requires.few))))
