use Rattle.std.proofs.Common.{arith, ap, ◌∙◌, ◌≡◌, ◌+ℤ◌, to_z, of_z, w32, nat_abs}
use Rattle.fips204_base.proofs.Names.{ints, width, bit_length, width-le, width-some}
use Rattle.fips204_base.proofs.conversion.field_width.Goals as goal

sum_width : (c : goal.After-bit_length) → c.bit_length.result ≡ width c.args.a c.args.b
sum_width c =
    let sum : to_z w32 (of_z w32 (to_z w32 (of_z w32 c.args.a) +ℤ to_z w32 (of_z w32 c.args.b))) ≡ c.args.a +ℤ c.args.b = omega (arith, ints, c.requires) in
    c.bit_length.ensures ∙ ap (λ z. bit_length (nat_abs z)) sum

pub overflow_cast-result : goal.overflow_cast-result
overflow_cast-result c = record { fits = omega (arith, sum_width c, width-le c.args.a c.args.b c.requires) }

pub returns-clause-few : goal.returns-clause-few
returns-clause-few c = omega (arith, sum_width c, width-le c.args.a c.args.b c.requires)

pub returns-clause-some : goal.returns-clause-some
returns-clause-some c = omega (arith, sum_width c, width-some c.args.a c.args.b c.requires)
