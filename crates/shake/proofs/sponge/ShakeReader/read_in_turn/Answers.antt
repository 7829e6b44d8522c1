use Rattle.std.proofs.Common.{◌≡◌, ◌-◌, min, refl, sym, arith, rules, length}
use borrow.Rule.Slice.PartMut.{put_mid}
use Rattle.shake.specs.Pieces.{next}
use Rattle.shake.proofs.SideBySide.{given_all, given_at, given_more}
use Rattle.shake.proofs.Squeezing.{filled_all}
use Rattle.shake.proofs.sponge.ShakeReader.read_in_turn.Goals as goal

pub loop-filled-preserved : goal.loop-filled-preserved
loop-filled-preserved g c =
    let l = c.loop-filled in
    let made = c.refill_four in
    let d = c.read-in-loop-filled-3 in
    let size : length (put_mid c.min-start.result (c.min-stop.result - c.min-start.result) l.to_d d.new.out) ≡ length l.to_d = search rules in
    record {
      within = omega (arith, c.min.ensures);
      first = given_more (next c.args.a.now) (next l.a) (next made.new.a) (next c.read.new.self) l.to_a c.read.new.out l.filled _ c.min.result
          l.invariant.first made.ensures.first c.read.ensures.pieces (omega (arith, l.auto.to_a, c.min.ensures)) (omega arith) (search rules);
      second = given_more (next c.args.b.now) (next l.b) (next made.new.b) (next c.read-in-loop-filled.new.self) l.to_b c.read-in-loop-filled.new.out l.filled _ c.min.result
          l.invariant.second made.ensures.second c.read-in-loop-filled.ensures.pieces (omega (arith, l.auto.to_b, c.min.ensures)) (omega arith) (search rules);
      third = given_more (next c.args.c.now) (next l.c) (next made.new.c) (next c.read-in-loop-filled-2.new.self) l.to_c c.read-in-loop-filled-2.new.out l.filled _ c.min.result
          l.invariant.third made.ensures.third c.read-in-loop-filled-2.ensures.pieces (omega (arith, l.auto.to_c, c.min.ensures)) (omega arith) (search rules);
      fourth = given_at (next c.args.d.now) (next d.new.self) _ (omega (arith, size, c.min-start.ensures, c.min-stop.ensures, c.min.ensures))
          (given_more (next c.args.d.now) (next l.d) (next made.new.d) (next d.new.self) l.to_d d.new.out c.min-start.result _ (c.min-stop.result - c.min-start.result)
          (given_at (next c.args.d.now) (next l.d) l.to_d (sym c.min-start.ensures) l.invariant.fourth) made.ensures.fourth d.ensures.pieces (omega (arith, c.min-start.ensures, c.min-stop.ensures)) refl (search rules));
    }

pub returns-clause-first : goal.returns-clause-first
returns-clause-first g c = given_all (next c.args.a.now) c.loop-filled.a c.loop-filled.to_a c.loop-filled.filled (length c.args.to_a.now) c.loop-filled.invariant.first (search rules) (omega arith)

pub returns-clause-second : goal.returns-clause-second
returns-clause-second g c = given_all (next c.args.b.now) c.loop-filled.b c.loop-filled.to_b c.loop-filled.filled (length c.args.to_b.now) c.loop-filled.invariant.second (search rules) (omega arith)

pub returns-clause-third : goal.returns-clause-third
returns-clause-third g c = given_all (next c.args.c.now) c.loop-filled.c c.loop-filled.to_c c.loop-filled.filled (length c.args.to_c.now) c.loop-filled.invariant.third (search rules) (omega arith)

pub returns-clause-fourth : goal.returns-clause-fourth
returns-clause-fourth g c =
    let l = c.loop-filled in
    given_all (next c.args.d.now) l.d l.to_d (min l.filled (length l.to_d)) (length c.args.to_d.now) l.invariant.fourth (omega (arith, l.auto.to_a, l.auto.to_d, c.requires.lengths)) (omega (arith, l.auto.to_a, l.auto.to_d, c.requires.lengths))

pub returns-clause-first_left : goal.returns-clause-first_left
returns-clause-first_left g c = filled_all c.loop-filled.to_a (next c.args.a.now) (next c.loop-filled.a) c.loop-filled.filled (length c.args.to_a.now) (search rules) (omega arith) c.loop-filled.invariant.first

pub returns-clause-second_left : goal.returns-clause-second_left
returns-clause-second_left g c = filled_all c.loop-filled.to_b (next c.args.b.now) (next c.loop-filled.b) c.loop-filled.filled (length c.args.to_b.now) (search rules) (omega arith) c.loop-filled.invariant.second

pub returns-clause-third_left : goal.returns-clause-third_left
returns-clause-third_left g c = filled_all c.loop-filled.to_c (next c.args.c.now) (next c.loop-filled.c) c.loop-filled.filled (length c.args.to_c.now) (search rules) (omega arith) c.loop-filled.invariant.third

pub returns-clause-fourth_left : goal.returns-clause-fourth_left
returns-clause-fourth_left g c =
    let l = c.loop-filled in
    filled_all l.to_d (next c.args.d.now) (next l.d) (min l.filled (length l.to_d)) (length c.args.to_d.now) (omega (arith, l.auto.to_a, l.auto.to_d, c.requires.lengths)) (omega (arith, l.auto.to_a, l.auto.to_d, c.requires.lengths)) l.invariant.fourth
