use Rattle.std.proofs.Common.{◌≡◌, ◌*ℤ◌, arith, to_z, of_z}
use Rattle.fips204_base.proofs.Names.{w32, w64, ints, to_z-of_z, congruent_trans, product_bound, residue_mul}
use Rattle.fips204_base.proofs.helpers.residue.mont_product.Goals as goal

pub mont_reduce-requires : goal.mont_reduce-requires
mont_reduce-requires c =
    let bound = product_bound c.args.x c.args.factor c.ranges.x c.requires in
    let product : c.wide_product.result ≡ c.args.x *ℤ c.args.factor = rw (to_z-of_z w32 c.args.x c.ranges.x, to_z-of_z w32 c.args.factor c.ranges.factor) at c.wide_product.ensures in
    record { low = omega (arith, ints, bound, product); high = omega (arith, ints, bound, product) }

pub returns-clause-congruent : goal.returns-clause-congruent
returns-clause-congruent c =
    let product : c.wide_product.result ≡ c.args.x *ℤ c.args.factor = rw (to_z-of_z w32 c.args.x c.ranges.x, to_z-of_z w32 c.args.factor c.ranges.factor) at c.wide_product.ensures in
    let read : to_z w64 (of_z w64 c.wide_product.result) ≡ c.wide_product.result = to_z-of_z w64 c.wide_product.result record { sfits = c.wide_product.type_inv } in
    let back : to_z w32 (of_z w32 c.mont_reduce.result) ≡ c.mont_reduce.result = to_z-of_z w32 c.mont_reduce.result record { sfits = c.mont_reduce.type_inv } in
    rw back (congruent_trans (rw (read, product) at c.mont_reduce.ensures.congruent) (residue_mul c.args.x c.args.factor))
