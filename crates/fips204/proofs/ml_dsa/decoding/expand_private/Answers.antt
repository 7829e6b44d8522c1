use Rattle.std.proofs.Common.{◌∙◌, rules, w32}
use Rattle.fips204.proofs.Names.{to_z-of_z}
use Rattle.fips204.proofs.ParameterSets.{limits, private_key-size, parts_by_rows}
use Rattle.fips204.proofs.ml_dsa.decoding.expand_private.Goals as goal

pub write_private_key_parts-requires : goal.write_private_key_parts-requires
write_private_key_parts-requires g c =
    let p = c.args.p.now in
    let E = to_z-of_z w32 p.eta (search rules) in
    let set = (limits p (search rules)).eta in
    rw E (search rules, (search rules, (set, c.told-sk ∙ private_key-size p.eta _ _ p.k p.l _ set c.requires.rows c.requires.columns c.requires.size)))

pub invariant_of-key : goal.invariant_of-key
invariant_of-key g c =
    let p = c.args.p.now in
    let E = to_z-of_z w32 p.eta (search rules) in
    let key = rw E at c.in-Ok.ensures in
    parts_by_rows p _ _ _ (search rules) c.requires.rows key.parts
