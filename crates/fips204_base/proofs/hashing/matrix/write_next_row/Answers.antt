use Rattle.std.proofs.Common.{◌≡◌, ◌∙◌, ◌+◌, ◌*◌, ◌<◌, Err, sym, subst, arith, rules, refl, length-set, add-zero, Some}
use Rattle.fips204_base.proofs.Names.{AreAhead, SamplingLimit, sampled_entry, present_nil, present_next, entry-numbered, row_of_four, ahead-none, matrix-none}
use Rattle.fips204_base.proofs.hashing.matrix.write_next_row.Goals as goal

pub loop-s-init : goal.loop-s-init
loop-s-init g c =
    let L = g.row.L in (
      c.told-row,
      present_nil,
      subst (λ n. AreAhead g.G.Xof.front c.args.rho.now L (g.row.K * L) n c.args.ahead.now) (sym (add-zero (c.args.r * L))) c.requires.ahead,
    )

pub loop-s-preserved : goal.loop-s-preserved
loop-s-preserved g c =
    let G = g.G.Xof.front in
    let L = g.row.L in
    let s = c.loop-s.s in
    let entry_of = sampled_entry G c.args.rho.now c.args.r in
    let entry = c.write_next_entry.new.entry in
    let more : c.args.r * L + s + 1 ≡ c.args.r * L + (s + 1) = omega arith in
    let here : entry_of s ≡ Some entry = sym (entry-numbered G c.args.rho.now L c.args.r s c.loop-s-test.true) ∙ c.in_ok-write_next_entry.ensures.0 in (
      length-set c.loop-s.row s entry ∙ c.loop-s.invariant.0,
      present_next entry_of 0 s s c.loop-s.row entry (omega arith) (omega (arith, c.loop-s.invariant.0, c.loop-s-test.true)) c.loop-s.invariant.1 here,
      subst (λ n. AreAhead G c.args.rho.now L (g.row.K * L) n c.write_next_entry.new.ahead) more c.in_ok-write_next_entry.ensures.1,
    )

pub returns-then-this-eq4 : goal.returns-then-this-eq4
returns-then-this-eq4 g c =
    let G = g.G.Xof.front in
    let rho = c.args.rho.now in
    let four : g.row.L ≡ 4 = omega (arith, c.if-this-eq4.true) in (
      row_of_four G rho g.row.L c.args.r c.write_four.new.values four (search rules) (λ j d h. c.in_ok-write_four.ensures j d (omega (arith, h, four, c.told-row))),
      ahead-none G rho g.row.L (g.row.K * g.row.L) (c.args.r + 1) c.args.ahead.now four,
    )

pub returns-in_err-write_four : goal.returns-in_err-write_four
returns-in_err-write_four g c =
    let refused : c.from_residual.result ≡ Err SamplingLimit = search rules in
    let none = c.in_err-write_four.ensures.0 in
    let four : g.row.L ≡ 4 = omega (arith, c.if-this-eq4.true) in
    let place : c.args.r * g.row.L + none.0 < g.row.K * g.row.L = let j = none.1 in rw four (omega (arith, j, c.requires.place)) in
    rw refused (matrix-none g.G.Xof.front c.args.rho.now g.row.K g.row.L (c.args.r * g.row.L + none.0) (omega (arith, four)) place none.2, refl)
