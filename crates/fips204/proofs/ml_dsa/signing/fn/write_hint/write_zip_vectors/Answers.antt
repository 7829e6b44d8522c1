use Rattle.std.proofs.Common.{rules, pos, true, false, ◌+ℤ◌, ◌-ℤ◌, w32, nat_abs}
use Rattle.fips204.proofs.Names.{to_z-of_z}
use Rattle.fips204.proofs.RejectionChecks.{hint_bit-is}
use Rattle.fips204.proofs.ml_dsa.signing.fn.write_hint.write_zip_vectors.Goals as goal

pub returns-then-make_hint : goal.returns-then-make_hint
returns-then-make_hint c =
    let gamma2 = to_z-of_z w32 c.captures.gamma2 (search rules) in
    let x = to_z-of_z w32 c.args.x c.ranges.x in
    let t = to_z-of_z w32 c.args.t c.ranges.t in
    let negated = to_z-of_z w32 (pos 0 -ℤ c.args.t) (search rules) in
    let sum = to_z-of_z w32 (c.args.x +ℤ c.args.t) (search rules) in
    hint_bit-is (nat_abs c.captures.gamma2) c.args.x c.args.t true (rw (gamma2, x, t, negated, sum) at c.if-make_hint.ensures)

pub returns-else-make_hint : goal.returns-else-make_hint
returns-else-make_hint c =
    let gamma2 = to_z-of_z w32 c.captures.gamma2 (search rules) in
    let x = to_z-of_z w32 c.args.x c.ranges.x in
    let t = to_z-of_z w32 c.args.t c.ranges.t in
    let negated = to_z-of_z w32 (pos 0 -ℤ c.args.t) (search rules) in
    let sum = to_z-of_z w32 (c.args.x +ℤ c.args.t) (search rules) in
    hint_bit-is (nat_abs c.captures.gamma2) c.args.x c.args.t false (rw (gamma2, x, t, negated, sum) at c.if-make_hint.ensures)
