use Rattle.std.proofs.Common.{arith, rules}
use Rattle.fips204.proofs.Names.{HasSizes, set_of}
use Rattle.fips204.proofs.ParameterSets.{known-set, parts_at_set}
use Rattle.fips204.proofs.keys.prepared.PreparedPrivateKey.get_public_key.Goals as goal

pub write_high_part-requires : goal.write_high_part-requires
write_high_part-requires g c =
    let sizes : HasSizes (set_of c.params.result) g.row.K g.row.L g.row.SIG_LEN = rw c.params.ensures g.met.S.SignatureSizes.sizes in
    let parts = parts_at_set (set_of c.params.result) _ _ _ (known-set c.params.result (search rules)) sizes.rows c.plain.invariant in
    (search rules, (search rules, (omega (arith, g.S.SignatureSizes.small), (omega (arith, g.S.SignatureSizes.small), (sizes.rows, (sizes.columns, (c.self.invariant.0, (parts.s1, parts.s2))))))))
