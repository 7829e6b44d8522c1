use Rattle.std.proofs.Common.{rules, arith, ◌≡◌, pos, true, false, length, get_or, ◌∙◌, ap, w32, SFits, add-one, length-append, [], ◌∷◌}
use Rattle.fips204.proofs.Names.{to_z-of_z, R, is_one, ones_below, all_ones-none, total_more, ones-none, is_one-test, ones-keep, ones-skip}
use Rattle.fips204.proofs.ml_dsa.signing.number_of_ones.Goals as goal
use Rattle.fips204.proofs.ml_dsa.signing.number_of_ones.Goals.{then-row-n-gt0, else-row-n-gt0}

pub loop-row-init : goal.loop-row-init
loop-row-init g c =
    let none = ap length all_ones-none in
    record { value = omega (arith, none); few = omega arith }

pub loop-n-init : goal.loop-n-init
loop-n-init g c =
    let row : R = get_or c.args.h.now c.loop-row.row-index record { 0 = [] } in
    let none = ap length (ones-none row) in
    record { value = omega (arith, none); few = omega arith }

pub loop-n-preserved : goal.loop-n-preserved
loop-n-preserved g c =
    let row : R = get_or c.args.h.now c.loop-row.row-index record { 0 = [] } in
    let n = c.loop-n.n in
    let fits : SFits w32 (get_or row.0 n (pos 0)) = search rules in
    let next = ap (λ m. length (ones_below row m)) (add-one n) in
    elim c.if-row-n-gt0.branch [
      | then-row-n-gt0 w ↦
          let one : is_one row n ≡ true = is_one-test row n _ true (to_z-of_z w32 _ fits) w.if-row-n-gt0.true in
          let more = next ∙ ap length (ones-keep row n one) ∙ length-append (ones_below row n) (n ∷ []) in
          rw (w.total-is) (record { value = omega (arith, more, c.loop-n.invariant.value); few = omega (arith, c.loop-n.invariant.few) })
      | else-row-n-gt0 w ↦
          let not : is_one row n ≡ false = is_one-test row n _ false (to_z-of_z w32 _ fits) w.if-row-n-gt0.false in
          let same = next ∙ ap length (ones-skip row n not) in
          rw (w.total-is) (record { value = omega (arith, same, c.loop-n.invariant.value); few = omega (arith, c.loop-n.invariant.few) })
    ]

pub loop-row-preserved : goal.loop-row-preserved
loop-row-preserved g c =
    let more = total_more c.args.h.now c.loop-row.row-index record { 0 = [] } (omega arith) in
    let last : c.loop-n.n ≡ 256 = omega arith in
    let row = rw last at c.loop-n.invariant.value in
    record {
      value = omega (arith, more, row, c.loop-row.invariant.value);
      few = omega (arith, last, c.loop-n.invariant.few, c.loop-row.invariant.few);
    }
