use Rattle.std.proofs.Common.{◌≡◌, ◌≤◌, ◌∙◌, ◌+◌, ◌*◌, ◌++◌, ap, sym, refl, arith, rules, take, drop, length, drop-drop}
use Rattle.fips204_base.proofs.Names.{take_all, take_at, drop_at}
use Rattle.std.proofs.lemmas.Nat.{mul-le}
use Rattle.fips204_base.proofs.hashing.sampler.Draws.fill.Goals as goal

pub loop-count-init : goal.loop-count-init
loop-count-init g c =
    let rest = g.X.Reader.XofReader.rest c.args.reader.now in
    let draws = c.args.draws.now in
    let self = c.args.self.now in
    let bytes = g.Self.Draws.bytes self in
    let same = c.first-tried.ensures.first in
    let made = c.write_first-count.ensures in (
      omega (arith, c.sampling_limit-limit.ensures.least, c.first-tried.ensures.most),
      sym (drop_at draws rest (bytes * c.first-tried.result) (c.requires.whole ∙ ap (λ n. bytes * n) (sym same))),
      made.count,
      c.write_first-count.array_long,
      made.kept (draws ++ rest) (sym (take_at draws rest (bytes * g.Self.Draws.first self) c.requires.whole)) ∙ ap (λ n. take 256 (g.Self.Draws.kept self (draws ++ rest) n)) (sym same),
    )

pub returns-then-tried-limit : goal.returns-then-tried-limit
returns-then-tried-limit g c =
    let front = c.args.draws.now ++ g.X.Reader.XofReader.rest c.args.reader.now in
    let end = c.if-tried-limit.true ∙ c.sampling_limit-limit.ensures.quarter in
    ((c.loop-count.count, c.loop-count-test.true, c.loop-count.invariant.4 ∙ ap (λ n. take 256 (g.Self.Draws.kept c.args.self.now front n)) end), refl)

pub loop-count-preserved : goal.loop-count-preserved
loop-count-preserved g c =
    let l = c.loop-count in
    let bytes = g.Self.Draws.bytes c.args.self.now in
    let front = c.args.draws.now ++ g.X.Reader.XofReader.rest c.args.reader.now in
    let next = c.min-next.result in
    let most : bytes * next ≤ bytes * c.wanted.result = mul-le bytes next bytes c.wanted.result (omega arith) (omega (arith, c.min-next.ensures)) in
    let fits : c.bytes.result * next ≤ 64 = rw c.bytes.ensures.bytes (omega (arith, most, c.wanted.ensures.most)) in
    let asked : length c.read.new.out ≡ c.bytes.result * next = search (rules, fits) in
    let size = sym c.read.auto.out ∙ asked ∙ ap (λ b. b * next) c.bytes.ensures.bytes in
    let read = c.read.ensures.given ∙ ap (λ m. take m (g.X.Reader.XofReader.rest l.reader)) size ∙ ap (take (bytes * next)) l.invariant.1 in
    let e : bytes * l.tried + bytes * next ≡ bytes * (l.tried + next) = omega arith in (
      omega (arith, c.min-next.ensures, c.if-tried-limit.false, l.invariant.0),
      c.read.ensures.dropped ∙ ap (λ m. drop m (g.X.Reader.XofReader.rest l.reader)) size ∙ ap (drop (bytes * next)) l.invariant.1 ∙ drop-drop (bytes * next) (bytes * l.tried) front ∙ ap (λ n. drop n front) e,
      c.write_kept-count.ensures.count,
      search rules,
      c.write_kept-count.ensures.kept front l.tried read l.invariant.4,
    )

pub returns : goal.returns
returns g c =
    let l = c.loop-count in
    let all : l.count ≡ 256 = omega (arith, c.loop-count-test.false, l.invariant.2) in
    (l.tried, omega (arith, l.invariant.0, c.sampling_limit-limit.ensures.quarter), sym (take_all 256 l.values (omega (arith, l.invariant.3))) ∙ ap (λ n. take n l.values) (sym all) ∙ l.invariant.4)
