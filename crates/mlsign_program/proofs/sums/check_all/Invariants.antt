use Rattle.std.proofs.Common.{All, codes, take}
use Rattle.mlsign_program.specs.Outputs.{LacksFlag}
use Rattle.mlsign_program.specs.Sums.{AreAllGood, HasFound}
use Rattle.mlsign_program.proofs.sums.check_all.Given as goal

abbrev pub invariant-loop-sum : goal.invariant-loop-sum
invariant-loop-sum l = LacksFlag l.words (codes "ignore-missing") → AreAllGood l.ends → All HasFound (take l.sum-index l.sums)
