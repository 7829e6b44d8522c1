use Rattle.std.proofs.Common.{rules, refl, subst, ap, sym, w32, pos, ◌-ℤ◌, ℤ, ◌≡◌, ◌∙◌, ◌*◌, length, arith, Some}
use Rattle.fips204.proofs.MatrixBytes.{matrix_asks}
use Rattle.fips204.proofs.Names.{to_z-of_z, VectorInRange, HasKeySizes, set_of, PrivateParts, sampled_matrix}
use Rattle.fips204.proofs.ParameterSets.{limits, known-set, private_key-size, parts_at_set, eta-some}
use Rattle.fips204.proofs.PreparedBytes.{written_private}
use Rattle.fips204.proofs.keys.private.PrivateKey.write_prepared.Goals as goal

pub sk_encode-encoded-requires : goal.sk_encode-encoded-requires
sk_encode-encoded-requires g c =
    let p = c.params.result in
    let sizes : HasKeySizes (set_of p) g.row.K g.row.L g.row.PK_LEN g.row.SK_LEN = rw c.params.ensures g.met.S.KeySizes.key_sizes in
    let E = to_z-of_z w32 p.eta (search rules) in
    let set = (limits p p.known).eta in
    let eta = eta-some p p.known in
    let parts = parts_at_set (set_of p) _ _ _ (known-set p p.known) sizes.rows c.self.invariant in
    let size = private_key-size p.eta _ _ p.k p.l _ set sizes.rows sizes.columns sizes.private_key in
    let first = subst (λ (x : ℤ). VectorInRange (pos 0 -ℤ x) x c.self.inside.s1) eta parts.s1.range in
    let second = subst (λ (x : ℤ). VectorInRange (pos 0 -ℤ x) x c.self.inside.s2) eta parts.s2.range in
    rw E (search rules, (search rules, (search rules, (set, (size, (first, (second, parts.t0.range)))))))

pub write_matrix-requires : goal.write_matrix-requires
write_matrix-requires g c =
    let p = g.S.Set.set in
    let sizes = g.met.S.KeySizes.key_sizes in
    let room : length c.split_at_mut-key.result.1.now ≡ 1024 * p.l * p.k = omega (arith, c.requires.room, sizes.private_key, c.split_at_mut-key.ensures.back_len) in
    matrix_asks p g.row.K g.row.L (length c.split_at_mut-key.result.1.now) g.S.Set.known sizes.rows sizes.columns room

pub returns : goal.returns
returns g c =
    let p = g.S.Set.set in
    let sizes = g.met.S.KeySizes.key_sizes in
    let sampled = c.in_ok-write_expanded_a.ensures.values in
    let a = c.write_expanded_a.new.matrix in
    let there : sampled_matrix g.G.Xof.front c.self.inside.rho g.row.K g.row.L ≡ Some a = sampled.1 ∙ ap Some (sym sampled.2) in
    let same : c.self.inside.rho ≡ c.args.self.now.rho = ap (λ (k : PrivateParts). k.rho) c.self.view_is in
    let at_set : sampled_matrix g.G.Xof.front c.args.self.now.rho p.k p.l ≡ Some a = rw (same, sizes.rows, sizes.columns) at there in
    written_private p g.G.Xof.front c.args.self.now a _ _ _ at_set (search rules) refl
