use Rattle.std.proofs.Common.{◌≡◌, ◌≤◌, ◌+◌, ◌∙◌, ℕ, drop, length, arith, refl, rules, take}
use Rattle.std.proofs.lemmas.List.{take_rest, take_at, length-take-le}
use Rattle.shake.specs.Pieces.{next}
use Rattle.shake.specs.State.{next_bytes}
use Rattle.shake.proofs.Squeezing.{next_bytes-made, next_bytes-run}
use Rattle.shake.proofs.sponge.ShakeReader.read_run.Given.{Over}
use Rattle.shake.proofs.sponge.ShakeReader.read_run.Goals as goal
use Rattle.shake.proofs.sponge.ShakeReader.read_run.Goals.{then-self, else-self, After-write_run-count}

in_hand : (g : Over) (c : After-write_run-count g) (d : ℕ)
    → next c.args.self.now d ≡ next_bytes g.row.R c.if-self.self.1.0 c.if-self.self.1.1.0 c.if-self.self.1.1.1.0 d
in_hand g c d =
    let s = c.args.self.now in
    let size : length s.block ≡ g.row.R = search rules in
    elim c.if-self.branch [
      | then-self w ↦ rw (w.self-is, w.write_block.ensures.written, w.f1600.ensures, size)
          (next_bytes-made g.row.R s.rate.0 s.rate.1 s.lanes s.block s.given (omega (arith, size, w.if-self.true)) d)
      | else-self w ↦ rw w.self-is refl
    ]

pub returns-clause-pieces : goal.returns-clause-pieces
returns-clause-pieces g c = λ d.
    let at = (goal.at.returns-clause-pieces g c).After-write_run-count in
    let s = c.args.self.now in
    let hand = drop c.if-self.self.1.1.1.0 c.if-self.self.1.1.0 in
    let n = c.write_run-count.result in
    let least = rw take_rest at c.write_run-count.ensures.count in
    let count : n ≤ length hand = omega (arith, least) in
    let front : take n c.write_run-count.new.out ≡ take n hand =
    rw (c.write_run-count.ensures.copied, take_rest) (take_at (take n hand) (drop n c.args.out.now) n (length-take-le n hand count)) in
    in_hand g at (n + d)
    ∙ next_bytes-run g.row.R s.rate.0 s.rate.1 c.if-self.self.1.0 c.if-self.self.1.1.0 c.if-self.self.1.1.1.0 n count d
    ∙ rw front refl
