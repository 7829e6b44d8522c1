use Rattle.std.proofs.Common.{rules, ◌≡◌, ◌*◌, length, take, drop, arith, length-take, length-drop}
use Rattle.std.proofs.lemmas.Nat.{le_bytes_4}
use Rattle.fips204.proofs.MatrixBytes.{small_piece}
use Rattle.fips204.proofs.ml_dsa.matrix_bytes.word_at.Goals as goal

pub returns : goal.returns
returns c =
    let at = 4 * c.args.n in
    let piece = take 4 (drop at c.args.words.now) in
    let read : c.unwrap.result.now ≡ piece = search rules in
    let long : length piece ≡ 4 = simp (length-take, length-drop) (omega (arith, c.told-words, c.requires)) in
    le_bytes_4 piece c.from_le_bytes.result long (small_piece at 4 c.args.words.now c.fits-words) (rw read at c.from_le_bytes.ensures)
