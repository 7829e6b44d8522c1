use Rattle.fips204_base.proofs.Names.{common_steps, to_z-of_z, ints, is_one, ones_below, ones-none, ones-room, is_one-test, ones-skip}
use Rattle.std.proofs.Common.{rules, arith, ◌≡◌, ◌+◌, pos, true, false, length, get_or, ◌∙◌, ap, length-set, w32, SFits, add-one, append-nil}
use Rattle.fips204_base.proofs.HintSpelling.{placed}
use Rattle.fips204_base.proofs.conversion.hints.write_places.Goals as goal
use Rattle.fips204_base.proofs.conversion.hints.write_places.Goals.{then-w-j-gt0, else-w-j-gt0}

pub loop-j-init : goal.loop-j-init
loop-j-init c = grind (arith, ints, common_steps, ones-none, append-nil)

pub bounds-y-at : goal.bounds-y-at
bounds-y-at c =
    let fits : SFits w32 (get_or c.args.w.now.0 c.loop-j.j (pos 0)) = search rules in
    let one : is_one c.args.w.now c.loop-j.j ≡ true = is_one-test c.args.w.now c.loop-j.j _ true (to_z-of_z w32 _ fits) c.if-w-j-gt0.true in
    ones-room c.args.w.now c.loop-j.j c.args.from (length c.loop-j.y) c.loop-j.at one c.loop-j-test.true (omega arith) c.loop-j.invariant.end

pub loop-j-preserved : goal.loop-j-preserved
loop-j-preserved c =
    let fits : SFits w32 (get_or c.args.w.now.0 c.loop-j.j (pos 0)) = search rules in
    elim c.if-w-j-gt0.branch [
      | then-w-j-gt0 w ↦
          let one : is_one c.args.w.now c.loop-j.j ≡ true = is_one-test c.args.w.now c.loop-j.j _ true (to_z-of_z w32 _ fits) w.if-w-j-gt0.true in
          let room = ones-room c.args.w.now c.loop-j.j c.args.from (length c.loop-j.y) c.loop-j.at one c.loop-j-test.true (omega arith) c.loop-j.invariant.end in
          let new = placed c.args.w.now c.loop-j.j c.args.from c.loop-j.at c.args.y.now c.loop-j.y one room c.loop-j.invariant.end c.loop-j.invariant.places c.loop-j.invariant.rest in
          rw (w.y-is, w.at-is) (record { size = length-set c.loop-j.y c.loop-j.at c.loop-j.j ∙ c.loop-j.invariant.size; end = new.0; places = new.1; rest = new.2 })
      | else-w-j-gt0 w ↦
          let not : is_one c.args.w.now c.loop-j.j ≡ false = is_one-test c.args.w.now c.loop-j.j _ false (to_z-of_z w32 _ fits) w.if-w-j-gt0.false in
          let same : ones_below c.args.w.now (c.loop-j.j + 1) ≡ ones_below c.args.w.now c.loop-j.j = ap (ones_below c.args.w.now) (add-one c.loop-j.j) ∙ ones-skip c.args.w.now c.loop-j.j not in
          rw (w.y-is, w.at-is, same) c.loop-j.invariant
    ]
