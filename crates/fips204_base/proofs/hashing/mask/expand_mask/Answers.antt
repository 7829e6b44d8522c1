use Rattle.std.proofs.Common.{◌≡◌, arith, length, nat_abs, of_z, rules, to_z}
use Rattle.fips204_base.proofs.Names.{w32, mask-each}
use Rattle.fips204_base.proofs.hashing.mask.expand_mask.Goals as goal

pub returns : goal.returns
returns g c =
    let gamma1 : to_z w32 (of_z w32 c.args.gamma1) ≡ c.args.gamma1 = search rules in
    let each = rw gamma1 at (rw c.unwrap.ensures at c.write_all.ensures) in
    let size : length c.write_all.new.values ≡ g.row.L = search rules in
    mask-each (nat_abs c.args.gamma1) g.H.Xof.front c.args.rho.now g.row.L c.args.mu c.write_all.new.values size (λ k d h. each k d (omega (arith, h, size, c.write_all.auto.values)))
