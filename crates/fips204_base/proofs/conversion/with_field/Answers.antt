use Rattle.std.proofs.Common.{◌≡◌, ◌*◌, ◌%◌, ◌^◌, arith, bit_or, ◌∙◌, ap}
use Rattle.fips204_base.proofs.Names.{or_shifted}
use Rattle.fips204_base.proofs.conversion.with_field.Goals as goal

pub returns : goal.returns
returns c =
    let whole : c.args.field * 2 ^ c.args.have % 4294967296 ≡ c.args.field * 2 ^ c.args.have = omega (arith, c.requires.room) in
    ap (λ n. bit_or n c.args.word) whole ∙ or_shifted c.args.field c.args.have c.args.word c.requires.word ∙ omega arith
