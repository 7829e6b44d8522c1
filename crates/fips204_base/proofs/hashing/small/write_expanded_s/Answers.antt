use Rattle.std.proofs.Common.{◌≡◌, Err, arith, refl, inl, inr, nat_abs, of_z, rules, to_z}
use Rattle.fips204_base.proofs.Names.{w32, SamplingLimit, small_vector-each, small_vector-none}
use Rattle.fips204_base.proofs.hashing.small.write_expanded_s.Goals as goal

pub returns-in_err-write_all-clause-limit : goal.returns-in_err-write_all-clause-limit
returns-in_err-write_all-clause-limit g c =
    let refused : c.from_residual.result ≡ Err SamplingLimit = search rules in
    let eta : to_z w32 (of_z w32 c.args.eta) ≡ c.args.eta = search rules in
    let none = rw eta at c.in_err-write_all.ensures.0 in
    rw refused (refl, inl (small_vector-none (nat_abs c.args.eta) g.H.Xof.front c.args.rho.now 0 g.row.L none.0 (omega (arith, none.1, c.told-s1)) none.2))

pub returns-in_err-write_all-2-clause-limit : goal.returns-in_err-write_all-2-clause-limit
returns-in_err-write_all-2-clause-limit g c =
    let refused : c.from_residual-in_err-write_all-2.result ≡ Err SamplingLimit = search rules in
    let eta : to_z w32 (of_z w32 c.args.eta) ≡ c.args.eta = search rules in
    let none = rw eta at c.in_err-write_all-2.ensures.0 in
    rw refused (refl, inr (small_vector-none (nat_abs c.args.eta) g.H.Xof.front c.args.rho.now g.row.L g.row.K none.0 (omega (arith, none.1, c.told-s2)) none.2))

pub returns-clause-s1 : goal.returns-clause-s1
returns-clause-s1 g c =
    let eta : to_z w32 (of_z w32 c.args.eta) ≡ c.args.eta = search rules in
    let s1 = c.write_all.new.values in
    small_vector-each (nat_abs c.args.eta) g.H.Xof.front c.args.rho.now 0 g.row.L s1 (search rules) (λ k d h. rw eta at (c.in_ok-write_all.ensures k d (omega (arith, h, c.told-s1))))

pub returns-clause-s2 : goal.returns-clause-s2
returns-clause-s2 g c =
    let eta : to_z w32 (of_z w32 c.args.eta) ≡ c.args.eta = search rules in
    let s2 = c.write_all-2.new.values in
    small_vector-each (nat_abs c.args.eta) g.H.Xof.front c.args.rho.now g.row.L g.row.K s2 (search rules) (λ k d h. rw eta at (c.in_ok-write_all-2.ensures k d (omega (arith, h, c.told-s2))))
