use Rattle.std.proofs.Common.{◌≡◌, All, Any, take, true}
use Rattle.mlsign_program.specs.Sums.{HasFound, Names}
use Rattle.mlsign_program.proofs.sums.check_listed.Given as goal

abbrev pub invariant-loop-sum : goal.invariant-loop-sum
invariant-loop-sum l = record {
  listed : l.is_listed ≡ true → Any (Names l.file) l.sums;
  found : All (λ sum. Names l.file sum → HasFound sum) (take l.sum-index l.sums);
}
