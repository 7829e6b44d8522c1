use Rattle.std.proofs.Common.{◌≡◌, ◌∙◌, ◌+◌, Err, ap, refl, arith, rules, subst}
use Rattle.fips204_base.proofs.Names.{SamplingLimit, part_place}
use Rattle.fips204_base.proofs.hashing.sampler.Sampler.write_all.Goals as goal

pub write_four-requires-clause-numbers : goal.write_four-requires-clause-numbers
write_four-requires-clause-numbers g c = λ j h.
    let done = c.loop-done.done in
    let place : c.args.n + (done + j) ≡ c.args.n + done + j = omega arith in
    subst (g.Self.Sampler.has_number c.args.self.now) place (c.requires.numbers (done + j) (omega (arith, part_place done c.min-count.result j c.loop-done.values h, c.loop-done.auto.values)))

pub returns-in_err-write_four : goal.returns-in_err-write_four
returns-in_err-write_four g c =
    let done = c.loop-done.done in
    let none = c.in_err-write_four.ensures in
    let place : c.args.n + (done + none.0.0) ≡ c.args.n + done + none.0.0 = omega arith in
    let refused : c.from_residual.result ≡ Err SamplingLimit = search rules in
    rw refused ((done + none.0.0, omega (arith, part_place done c.min-count.result none.0.0 c.loop-done.values none.0.1, c.loop-done.auto.values), ap (λ n. g.Self.Sampler.made c.args.self.now (g.X.Xof.front (g.Self.Sampler.seed c.args.self.now n))) place ∙ none.0.2), refl)
