use Rattle.std.proofs.Common.{◌∙◌, refl, arith, sym, subst, length-set}
use Rattle.fips204_base.proofs.Names.{sampled_row, MatrixWithin, sampled_matrix, matrix-within, present_nil, present_next, present_whole}
use Rattle.fips204_base.proofs.hashing.matrix.write_expanded_a.Goals as goal

pub loop-r-init : goal.loop-r-init
loop-r-init g c = (c.told-matrix, present_nil, λ j d within four h. absurd (within (omega arith)))

pub loop-r-preserved : goal.loop-r-preserved
loop-r-preserved g c =
    let row = sampled_row g.G.Xof.front c.args.rho.now g.row.L in (
      length-set _ _ _ ∙ c.loop-r.invariant.0,
      present_next row 0 c.loop-r.r c.loop-r.r c.loop-r.matrix _ (omega arith) (omega (arith, c.loop-r.invariant.0, c.loop-r-test.true)) c.loop-r.invariant.1 c.in_ok-write_next_row.ensures.0,
      c.in_ok-write_next_row.ensures.1,
    )

pub returns-clause-values : goal.returns-clause-values
unfolding sampled_matrix
returns-clause-values g c = (
  c.loop-r.matrix,
  present_whole (sampled_row g.G.Xof.front c.args.rho.now g.row.L) 0 g.row.K c.loop-r.r c.loop-r.matrix (omega (arith, c.loop-r-test.false, c.loop-r.auto.r-end)) c.loop-r.invariant.0 c.loop-r.invariant.1,
  refl,
)

pub returns-clause-range : goal.returns-clause-range
returns-clause-range g c =
    let a = returns-clause-values g c in
    subst (MatrixWithin 8380416) (sym a.2) (matrix-within g.G.Xof.front c.args.rho.now g.row.K g.row.L a.0 a.1)
