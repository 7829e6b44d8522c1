use Rattle.mlsign_engine.proofs.FormFiles.{reads_public, reads_private}
use Rattle.mlsign_engine.proofs.laws.keys_are_read.Goals as goal

pub returns : goal.returns
returns c = record { public = reads_public; private = reads_private }
