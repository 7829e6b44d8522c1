use Rattle.mlsign_engine.proofs.FormFiles.{files_belong, made_files_belong}
use Rattle.mlsign_engine.proofs.KeyPairs.{signed_valid}
use Rattle.mlsign_engine.proofs.laws.signed_is_valid.Goals as goal

pub returns : goal.returns
returns c = record { signed = signed_valid; published = files_belong; generated = made_files_belong }
