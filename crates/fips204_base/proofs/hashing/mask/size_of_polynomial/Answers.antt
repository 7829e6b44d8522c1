use Rattle.std.proofs.Common.{◌≡◌, ◌∙◌, ◌*◌, to_z, of_z, ap, arith, rules}
use Rattle.fips204_base.proofs.Names.{w32, less_read, mask_size-within, mask_width-is}
use Rattle.fips204_base.proofs.hashing.mask.size_of_polynomial.Goals as goal

pub returns-clause-size : goal.returns-clause-size
returns-clause-size c =
    let gamma1 : to_z w32 (of_z w32 c.args.gamma1) ≡ c.args.gamma1 = search rules in
    (rw (gamma1, less_read c.args.gamma1 c.requires) at c.polynomial_size.ensures.size) ∙ ap (λ n. 32 * n) (mask_width-is c.args.gamma1 c.requires)

pub returns-clause-within : goal.returns-clause-within
returns-clause-within c = omega (arith, returns-clause-size c, mask_size-within c.args.gamma1 c.requires)
