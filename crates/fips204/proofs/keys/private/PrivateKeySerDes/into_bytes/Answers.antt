use Rattle.std.proofs.Common.{rules, subst, w32, pos, ◌-ℤ◌, ℤ}
use Rattle.fips204.proofs.Names.{to_z-of_z, VectorInRange, HasKeySizes, set_of}
use Rattle.fips204.proofs.ParameterSets.{limits, known-set, private_key-size, parts_at_set, eta-some}
use Rattle.fips204.proofs.keys.private.PrivateKeySerDes.into_bytes.Goals as goal

pub sk_encode-requires : goal.sk_encode-requires
sk_encode-requires g c =
    let p = c.params.result in
    let sizes : HasKeySizes (set_of p) g.row.K g.row.L g.row.PK_LEN g.row.SK_LEN = rw c.params.ensures g.met.S.KeySizes.key_sizes in
    let E = to_z-of_z w32 p.eta (search rules) in
    let set = (limits p p.known).eta in
    let eta = eta-some p p.known in
    let parts = parts_at_set (set_of p) _ _ _ (known-set p p.known) sizes.rows c.self.invariant in
    let size = private_key-size p.eta _ _ p.k p.l _ set sizes.rows sizes.columns sizes.private_key in
    let first = subst (λ (x : ℤ). VectorInRange (pos 0 -ℤ x) x c.self.inside.s1) eta parts.s1.range in
    let second = subst (λ (x : ℤ). VectorInRange (pos 0 -ℤ x) x c.self.inside.s2) eta parts.s2.range in
    rw E (search rules, (search rules, (search rules, (set, (size, (first, (second, parts.t0.range)))))))

pub returns : goal.returns
returns g c = search rules
