use Rattle.std.proofs.Common.{◌≡◌, ◌∙◌, pos, nat_abs, ◌-ℤ◌, to_z, of_z, ◌-◌, sym, ap, arith, rules}
use Rattle.fips204_base.proofs.Names.{take_all, w32, unpacked, less_read, response_least}
use Rattle.fips204_base.proofs.hashing.mask.write_polynomial.Goals as goal

pub returns : goal.returns
returns c =
    let bytes = c.args.bytes.now in
    let gamma1 : to_z w32 (of_z w32 c.args.gamma1) ≡ c.args.gamma1 = search rules in
    let less = less_read c.args.gamma1 c.requires.gamma1 in
    let some = rw c.unwrap.ensures at c.write_unpacked_by_range.ensures in
    let unpacks : c.write_unpacked_by_range.new.w ≡ unpacked (nat_abs (c.args.gamma1 -ℤ pos 1)) (nat_abs c.args.gamma1) bytes = rw (gamma1, less) at some.0 in
    unpacks ∙ ap (λ a. unpacked a (nat_abs c.args.gamma1) bytes) (response_least c.args.gamma1 c.requires.gamma1)
    ∙ ap (unpacked (nat_abs c.args.gamma1 - 1) (nat_abs c.args.gamma1)) (sym (take_all _ bytes (omega (arith, c.requires.size))))
