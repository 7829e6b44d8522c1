use Rattle.std.proofs.Common.{arith, ◌≡◌, ◌<◌, ◌^◌, nat_abs, to_z, of_z, w32}
use Rattle.fips204_base.proofs.Names.{ints, bit_length-leading}
use Rattle.fips204_base.proofs.helpers.bit_length.Goals as goal

pub returns : goal.returns
returns c =
    let small : nat_abs c.args.x < 2 ^ 32 = omega (arith, ints, c.requires, c.ranges.x) in
    let x : nat_abs (to_z w32 (of_z w32 c.args.x)) ≡ nat_abs c.args.x = omega (arith, ints, c.requires) in
    rw x (omega (arith, bit_length-leading (nat_abs c.args.x) small))
