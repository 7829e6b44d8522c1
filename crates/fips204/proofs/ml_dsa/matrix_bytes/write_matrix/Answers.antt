use Rattle.std.proofs.Common.{arith, length-take, length-drop}
use Rattle.std.proofs.lemmas.Grind.{common_steps}
use Rattle.std.proofs.lemmas.List.{take_all}
use Rattle.fips204.proofs.MatrixBytes.{length-put_mid, piece-within, piece_more, put_piece}
use Rattle.fips204.proofs.ml_dsa.matrix_bytes.write_matrix.Goals as goal

pub loop-r-init : goal.loop-r-init
loop-r-init g c = grind (arith, common_steps)

pub loop-r-preserved : goal.loop-r-preserved
loop-r-preserved g c = grind (arith, common_steps, length-take, length-drop, length-put_mid, put_piece, piece-within, piece_more)

pub returns : goal.returns
returns g c = grind (arith, common_steps, take_all)
