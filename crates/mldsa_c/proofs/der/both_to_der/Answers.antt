use Rattle.std.proofs.Common.{◌≤◌, sym, ◌∙◌, arith}
use Rattle.std.proofs.lemmas.List.{length-take-le}
use Rattle.fips204_shake.proofs.KeyFiles.{private_small}
use Rattle.mldsa_c.proofs.der.both_to_der.Goals as goal

pub slice_bounds-expanded-end : goal.slice_bounds-expanded-end
slice_bounds-expanded-end c =
    let fits : c.private_key_len-size.result ≤ 4896 = omega (arith, private_small c.args.set, c.private_key_len-size.ensures) in
    sym (length-take-le c.private_key_len-size.result _ fits)

pub generate-requires : goal.generate-requires
generate-requires c =
    let fits : c.private_key_len-size.result ≤ 4896 = omega (arith, private_small c.args.set, c.private_key_len-size.ensures) in
    length-take-le c.private_key_len-size.result _ fits ∙ c.private_key_len-size.ensures

pub write_private-requires-clause-sizes : goal.write_private-requires-clause-sizes
write_private-requires-clause-sizes c =
    let fits : c.private_key_len-size.result ≤ 4896 = omega (arith, private_small c.args.set, c.private_key_len-size.ensures) in
    (c.if-seed-ne32.false, c.generate.auto.private_key ∙ length-take-le c.private_key_len-size.result _ fits ∙ c.private_key_len-size.ensures)
