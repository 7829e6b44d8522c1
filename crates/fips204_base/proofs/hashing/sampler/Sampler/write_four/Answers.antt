use Rattle.std.proofs.Common.{ℕ, ◌≡◌, ◌∙◌, ◌+◌, ◌-◌, Err, Some, ap, refl, arith, rules, add-zero, length}
use Rattle.fips204_base.proofs.Names.{SamplingLimit, of_parts, parts_long, four_rows}
use Rattle.fips204_base.proofs.hashing.sampler.Sampler.write_four.Goals as goal

pub write-requires-3-clause-front : goal.write-requires-3-clause-front
write-requires-3-clause-front g c = parts_long _ c.open-c.ensures c.read_four.ensures.third c.read_four.ensures.third_left (g.met.X.Xof.front_size _)

pub write-requires-4-clause-front : goal.write-requires-4-clause-front
write-requires-4-clause-front g c = parts_long _ c.open-d.ensures c.read_four.ensures.fourth c.read_four.ensures.fourth_left (g.met.X.Xof.front_size _)

pub returns-in_err-write : goal.returns-in_err-write
returns-in_err-write g c =
    let made = g.Self.Sampler.made c.args.self.now in
    let first = ap (λ n. made (g.X.Xof.front (g.Self.Sampler.seed c.args.self.now n))) (add-zero c.args.n) in
    let refused : c.from_residual.result ≡ Err SamplingLimit = search rules in
    rw refused ((0, omega (arith, c.requires.least), first ∙ of_parts made _ c.open-a.ensures c.read_four.ensures.first c.read_four.ensures.first_left c.in_err-write.ensures.0), refl)

pub returns-in_err-write-4 : goal.returns-in_err-write-4
returns-in_err-write-4 g c =
    let made = g.Self.Sampler.made c.args.self.now in
    let last : c.args.n + 3 ≡ c.args.n + length c.args.values.now - 1 = omega (arith, c.if-not-has_fourth.false) in
    let fourth = ap (λ n. made (g.X.Xof.front (g.Self.Sampler.seed c.args.self.now n))) last in
    let refused : c.from_residual-in_err-write-4.result ≡ Err SamplingLimit = search rules in
    rw refused ((3, omega (arith, c.if-not-has_fourth.false), fourth ∙ of_parts made _ c.open-d.ensures c.read_four.ensures.fourth c.read_four.ensures.fourth_left c.in_err-write-4.ensures.0), refl)

pub returns : goal.returns
returns g c =
    let made = g.Self.Sampler.made c.args.self.now in
    let value = λ (n : ℕ). made (g.X.Xof.front (g.Self.Sampler.seed c.args.self.now n)) in
    let Q = λ (j : ℕ) (w : g.row.Self-Value.Denot). value (c.args.n + j) ≡ Some w in
    let last : c.args.n + 3 ≡ c.args.n + length c.args.values.now - 1 = omega (arith, c.if-not-has_fourth.false) in
    let read = c.read_four.ensures in
    let written = four_rows Q c.args.values.now 0 (length c.args.values.now) _ _ _ _ refl (omega (arith, c.if-not-has_fourth.false)) (λ k d h. absurd (omega (arith, h)))
    (ap value (add-zero c.args.n) ∙ of_parts made _ c.open-a.ensures read.first read.first_left c.in_ok-write.ensures)
    (of_parts made _ c.open-b.ensures read.second read.second_left c.in_ok-write-2.ensures)
    (of_parts made _ c.open-c.ensures read.third read.third_left c.in_ok-write-3.ensures)
    (ap value last ∙ of_parts made _ c.open-d.ensures read.fourth read.fourth_left c.in_ok-write-4.ensures) in
    λ j d h. written.1 j d (omega (arith, h, c.if-not-has_fourth.false))
