use Rattle.std.proofs.Common.{nat_abs, w32, refl, rules}
use Rattle.fips204_base.proofs.Names.{to_z-of_z, vectors_some, vectors_none}
use Rattle.fips204_base.proofs.hashing.small.expand_s.Goals as goal

pub returns-in_err-write_expanded_s : goal.returns-in_err-write_expanded_s
returns-in_err-write_expanded_s g c =
    let E = to_z-of_z w32 c.args.eta (search rules) in
    let limit = c.in_err-write_expanded_s.ensures.limit in
    let none = vectors_none (nat_abs c.args.eta) g.H.Xof.front c.args.rho.now g.row.K g.row.L (rw E at limit).1 in
    rw none (search rules)

pub returns : goal.returns
returns g c =
    let E = to_z-of_z w32 c.args.eta (search rules) in
    let s1 = c.in_ok-write_expanded_s.ensures.s1 in
    let s2 = c.in_ok-write_expanded_s.ensures.s2 in
    let some = vectors_some (nat_abs c.args.eta) g.H.Xof.front c.args.rho.now g.row.K g.row.L _ _ (rw E at s1) (rw E at s2) in
    rw some refl
