use Rattle.std.proofs.Common.{rules, arith, subst, w32, pos, ◌-ℤ◌, ℤ}
use Rattle.fips204.proofs.Names.{to_z-of_z, VectorInRange, HasKeySizes, set_of}
use Rattle.fips204.proofs.ParameterSets.{limits, matrix-shape, private_key-size, eta-some}
use Rattle.fips204.proofs.types.KG.write_pair.Goals as goal

pub write_vectors-requires : goal.write_vectors-requires
write_vectors-requires g c =
    let p = c.params-p.result in
    let sizes : HasKeySizes (set_of p) g.row.K g.row.L g.row.PK_LEN g.row.SK_LEN = rw c.params-p.ensures g.met.S.KeySizes.key_sizes in
    let few = (matrix-shape p g.row.K g.row.L p.known sizes.rows sizes.columns).1 in
    (omega (arith, few), (omega (arith, few), (sizes.rows, sizes.columns)))

pub sk_encode-private-requires : goal.sk_encode-private-requires
sk_encode-private-requires g c =
    let p = c.params-p.result in
    let sizes : HasKeySizes (set_of p) g.row.K g.row.L g.row.PK_LEN g.row.SK_LEN = rw c.params-p.ensures g.met.S.KeySizes.key_sizes in
    let E = to_z-of_z w32 p.eta (search rules) in
    let set = (limits p p.known).eta in
    let eta = eta-some p p.known in
    let size = private_key-size p.eta _ _ p.k p.l _ set sizes.rows sizes.columns sizes.private_key in
    let ranges = c.in_ok-rho.ensures in
    let first = subst (λ (x : ℤ). VectorInRange (pos 0 -ℤ x) x c.write_vectors.new.s1) eta ranges.first.range in
    let second = subst (λ (x : ℤ). VectorInRange (pos 0 -ℤ x) x c.write_vectors.new.s2) eta ranges.second.range in
    let few = (matrix-shape p g.row.K g.row.L p.known sizes.rows sizes.columns).1 in
    rw E (omega (arith, few), (omega (arith, few), (search rules, (set, (size, (first, (second, ranges.low.range)))))))
