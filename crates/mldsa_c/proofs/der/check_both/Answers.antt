use Rattle.std.proofs.Common.{◌≤◌, length, sym, ◌∙◌, arith}
use Rattle.std.proofs.lemmas.List.{length-take-le}
use Rattle.fips204_shake.proofs.KeyFiles.{private_small}
use Rattle.mldsa_c.proofs.der.check_both.Goals as goal

pub slice_bounds-made-end-2 : goal.slice_bounds-made-end-2
slice_bounds-made-end-2 c =
    let fits : length c.args.private_key.now ≤ 4896 = omega (arith, private_small c.args.set, c.requires) in
    sym (length-take-le (length c.args.private_key.now) _ fits)

pub generate-requires : goal.generate-requires
generate-requires c =
    let fits : length c.args.private_key.now ≤ 4896 = omega (arith, private_small c.args.set, c.requires) in
    length-take-le (length c.args.private_key.now) _ fits ∙ c.requires
