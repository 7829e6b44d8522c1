use Rattle.std.proofs.Common.{lit<}
use Rattle.std.proofs.lemmas.Str.Pattern.{split_parts}
use Rattle.mlsign_program.proofs.Lines.{begun_more}
use Rattle.mlsign_program.proofs.sums.sums_of.Goals as goal

pub loop-line-preserved : goal.loop-line-preserved
loop-line-preserved c =
    let parts = rw c.in-Some.is at (split_parts 10 _ c.split_once.result c.split_once.ensures.cases (lit< tt)) in
    rw c.in_ok-push.ensures.items
    (begun_more _ _ _ _ _ c.in-Some-2.sum c.loop-line.invariant parts.0 (rw c.in-Some-2.is at c.in_ok-sum.ensures))
