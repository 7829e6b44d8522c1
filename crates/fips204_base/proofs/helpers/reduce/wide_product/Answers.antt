use Rattle.std.proofs.Common.{◌≡◌, ◌∙◌, ◌*ℤ◌}
use Rattle.fips204_base.proofs.Names.{w32, w64, to_z-of_z, product_fits, wider}
use Rattle.fips204_base.proofs.helpers.reduce.wide_product.Goals as goal

pub returns : goal.returns
returns c =
    let x = c.args.x in
    let y = c.args.y in
    let first : c.from.result ≡ x = c.from.ensures ∙ to_z-of_z w32 x c.ranges.x in
    let second : c.from-2.result ≡ y = c.from-2.ensures ∙ to_z-of_z w32 y c.ranges.y in
    rw (first, second, to_z-of_z w64 x (wider x c.ranges.x), to_z-of_z w64 y (wider y c.ranges.y)) (to_z-of_z w64 (x *ℤ y) (product_fits x y c.ranges.x c.ranges.y))
