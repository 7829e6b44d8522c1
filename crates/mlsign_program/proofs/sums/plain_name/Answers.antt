use Rattle.mlsign_program.proofs.Names.{read_more}
use Rattle.mlsign_program.proofs.sums.plain_name.Goals as goal

pub loop-character-preserved : goal.loop-character-preserved
loop-character-preserved c =
    rw c.in_ok-push.ensures.bytes
    (read_more _ _ _ _ c.in-Some.character c.in-Some-plain_character.plain c.loop-character.invariant c.in-Some-plain_character.ensures)
