use Rattle.std.proofs.Common.{All, take}
use Rattle.mlsign_program.specs.Sums.{AreAllGood, IsListed}
use Rattle.mlsign_program.proofs.sums.check_named.Given as goal

abbrev pub invariant-loop-file : goal.invariant-loop-file
invariant-loop-file l = AreAllGood l.ends → All (λ file. IsListed l.sums file.now) (take l.file-index l.files)
