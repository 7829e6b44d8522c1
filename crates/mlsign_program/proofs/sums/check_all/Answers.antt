use Rattle.mlsign_program.proofs.Checking.{found_of, one_more, when_good, whole}
use Rattle.mlsign_program.specs.Sums.{HasFound}
use Rattle.mlsign_program.proofs.sums.check_all.Goals as goal

pub loop-sum-preserved : goal.loop-sum-preserved
loop-sum-preserved c =
    λ lacks good.
    let counted = c.in_ok-count.ensures.0 good in
    let end = rw counted.1 at c.tell-end.ensures in
    one_more HasFound c.args.sums.now c.loop-sum.sum-index c.sum-item.result c.sum-item.is c.loop-sum-test.true (c.loop-sum.invariant lacks counted.0)
    (found_of c.sum-item.result c.check_file-end.result c.check_file-end.ensures end)

pub returns : goal.returns
returns c =
    λ lacks. when_good c.worst.result _ _ c.worst.ensures
    (λ good. whole HasFound c.args.sums.now c.loop-sum.sum-index c.loop-sum-test.false (c.loop-sum.invariant lacks good))
