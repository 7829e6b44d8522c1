use Rattle.std.proofs.Common.{arith, refl, length-take, length-drop}
use Rattle.std.proofs.lemmas.Grind.{common_steps}
use Rattle.std.proofs.lemmas.Int.{ints, to_z-of_z}
use Rattle.std.proofs.lemmas.List.{take_all}
use Rattle.fips204_base.proofs.Pieces.{length-put_mid, piece_more, put_piece}
use Rattle.mldsa_c.proofs.sets.write_numbers.Goals as goal

pub loop-n-init : goal.loop-n-init
loop-n-init c = record { size = refl; written = refl }

pub loop-n-preserved : goal.loop-n-preserved
loop-n-preserved c = grind (arith, ints, common_steps, to_z-of_z, length-take, length-drop, length-put_mid, put_piece, piece_more)

pub returns : goal.returns
returns c = grind (arith, ints, common_steps, take_all)
