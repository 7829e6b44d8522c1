use Rattle.std.proofs.Common.{ℤ, ◌≤◌, nat_abs, pos, rules, arith, length-set, ◌∙◌}
use Rattle.std.proofs.lemmas.List.{length-replicate}
use Rattle.std.proofs.lemmas.List.Elements.{All-set, All-replicate}
use Rattle.mldsa_bench.proofs.arithmetic.polynomials.within.Goals as goal

pub loop-n-init : goal.loop-n-init
loop-n-init g c = (length-replicate g.row.N (pos 0), All-replicate (λ (y : ℤ). nat_abs y ≤ 8380416) g.row.N (pos 0) (omega arith))

pub loop-n-preserved : goal.loop-n-preserved
loop-n-preserved g c =
    let P = λ (y : ℤ). nat_abs y ≤ 8380416 in
    (length-set c.loop-n.out c.loop-n.n _ ∙ c.loop-n.invariant.0, All-set P c.loop-n.out c.loop-n.n _ (search (rules, arith)) c.loop-n.invariant.1)
