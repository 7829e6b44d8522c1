use Rattle.std.proofs.Common.{◌≡◌, ◌<◌, ◌≤◌, ◌∙◌, arith, rules, ap, length, length-set, pos, to_z, of_z, w32}
use Rattle.fips204_base.proofs.Names.{nat_abs, residue, row_value, row_written}
use Rattle.fips204_base.proofs.helpers.vector.write_row_sums.Goals as goal

pub loop-j-preserved : goal.loop-j-preserved
loop-j-preserved g c =
    let out = c.loop-j.out in
    let j = c.loop-j.j in
    let inside : j < length out = omega (arith, c.loop-j-test.true, c.loop-j.invariant.size) in
    let value = to_z w32 (of_z w32 c.place_sum.result) in
    let read : value ≡ c.place_sum.result = search rules in
    record {
      size = length-set _ _ _ ∙ c.loop-j.invariant.size;
      values = row_written (λ p x. residue x ≡ row_value g.row.L c.args.row.now c.args.u.now p) out j value (pos 0)
          inside c.loop-j.invariant.values (ap residue read ∙ c.place_sum.ensures.value);
      small = λ p d. row_written (λ _ x. nat_abs x ≤ 8380416) out j value d
          inside (λ r h. c.loop-j.invariant.small r d h) (rw read c.place_sum.ensures.small) p;
    }
