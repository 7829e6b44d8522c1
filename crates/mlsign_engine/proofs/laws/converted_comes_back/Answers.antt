use Rattle.mlsign_engine.proofs.FormFiles.{private_back, public_back}
use Rattle.mlsign_engine.proofs.laws.converted_comes_back.Goals as goal

pub returns : goal.returns
returns c = record { private = private_back; public = public_back }
