use Rattle.std.proofs.Common.{◌≡◌, ◌++◌, ◌*◌, ◌<◌, ◌≤◌, drop, ap, arith, rules, length-drop}
use Rattle.fips204_base.proofs.Names.{take_rest, InHand, InHand-made, InHand-size, InHand-few, IsRun, InHand-run}
use Rattle.fips204_base.specs.Streams.{counter_block}
use Rattle.fips204_base.proofs.xof.counter.BlockReader.read_run.Given.{Over}
use Rattle.fips204_base.proofs.xof.counter.BlockReader.read_run.Goals as goal
use Rattle.fips204_base.proofs.xof.counter.BlockReader.read_run.Goals.{then-self, else-self, After-write_run-count}

in_hand : (g : Over) (c : After-write_run-count g) →
    InHand g.H.BlockHash.hash g.row.N g.met.H.BlockHash.digest_size c.if-self.self-inside.seed c.if-self.self-inside.blocks c.args.self.now
    c.if-self.self-inside.next c.if-self.self-inside.block c.if-self.self-inside.given
unfolding counter_block
in_hand g c = elim c.if-self.branch [
  | then-self w ↦
      let made : w.digest-self-inside.result ≡ counter_block g.H.BlockHash.hash c.self.inside.seed c.self.inside.next = search rules in
      rw (w.self-inside-is, made)
      (InHand-made g.H.BlockHash.hash g.row.N g.met.H.BlockHash.digest_size c.self.inside.seed c.self.inside.blocks c.args.self.now
      c.self.inside.next c.self.inside.block c.self.inside.given (omega arith) w.if-self.true (c.self.invariant.0, c.self.invariant.1, c.self.told2, c.self.view_is))
  | else-self w ↦ rw w.self-inside-is (c.self.invariant.0, c.self.invariant.1, c.self.told2, c.self.view_is)
]

is_run : (g : Over) (c : After-write_run-count g) →
    IsRun g.H.BlockHash.hash g.row.N g.met.H.BlockHash.digest_size c.if-self.self-inside.seed c.if-self.self-inside.blocks c.args.self.now
    c.if-self.self-inside.next c.if-self.self-inside.block c.if-self.self-inside.given c.write_run-count.result
is_run g c =
    let count = rw take_rest at c.write_run-count.ensures.count in
    InHand-run _ _ g.met.H.BlockHash.digest_size _ _ _ _ _ _ _ (in_hand g c) (omega (arith, count))

pub invariant_of-self : goal.invariant_of-self
invariant_of-self g c =
    let at = (goal.at.invariant_of-self g c).After-write_run-count in
    let within : c.if-self.self-inside.blocks * g.row.N ≤ 1048576 = elim c.if-self.branch [
      | then-self w ↦ rw w.self-inside-is c.self.invariant.2
      | else-self w ↦ rw w.self-inside-is c.self.invariant.2
    ] in
    ((is_run g at).0, (in_hand g at).1, within)

pub returns-clause-given : goal.returns-clause-given
returns-clause-given g c =
    let at = (goal.at.returns-clause-given g c).After-write_run-count in
    rw (c.write_run-count.ensures.copied, take_rest) (ap (λ l. l ++ drop c.write_run-count.result c.args.out.now) (is_run g at).1)

pub returns-clause-dropped : goal.returns-clause-dropped
returns-clause-dropped g c = (is_run g (goal.at.returns-clause-dropped g c).After-write_run-count).2

pub overflow_add-self : goal.overflow_add-self
overflow_add-self g c =
    let few = InHand-few g.H.BlockHash.hash g.row.N g.met.H.BlockHash.digest_size c.self.inside.seed c.self.inside.blocks c.args.self.now
    c.self.inside.next c.self.inside.block c.self.inside.given (omega arith) c.if-self.true (c.self.invariant.0, c.self.invariant.1, c.self.told2, c.self.view_is) in
    record { fits = omega (arith, few, c.self.invariant.2) }

pub returns-clause-some : goal.returns-clause-some
returns-clause-some g c =
    let at = (goal.at.returns-clause-some g c).After-write_run-count in
    let some : c.if-self.self-inside.given < g.row.N = elim c.if-self.branch [
      | then-self w ↦ rw w.self-inside-is
          (InHand-size g.H.BlockHash.hash g.row.N g.met.H.BlockHash.digest_size c.self.inside.seed c.self.inside.blocks c.args.self.now
          c.self.inside.next c.self.inside.block c.self.inside.given (omega arith) (c.self.invariant.0, c.self.invariant.1, c.self.told2, c.self.view_is))
      | else-self w ↦ rw w.self-inside-is (omega (arith, c.self.invariant.0, w.if-self.false))
    ] in
    let count = rw take_rest at c.write_run-count.ensures.count in
    let room = length-drop c.if-self.self-inside.given c.if-self.self-inside.block in
    omega (arith, count, room, some, (in_hand g at).2, c.requires.wanted)
