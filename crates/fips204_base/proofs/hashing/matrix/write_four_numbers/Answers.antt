use Rattle.std.proofs.Common.{arith}
use Rattle.std.proofs.lemmas.List.{take_all}
use Rattle.fips204_base.proofs.hashing.matrix.write_four_numbers.Goals as goal

pub four_numbers-requires : goal.four_numbers-requires
four_numbers-requires c = λ j h. rw (take_all 16 c.args.bytes.now (omega (arith, c.requires.long))) (omega (arith, c.type_inv.bytes j))
