use Rattle.std.proofs.Common.{◌∙◌, sym}
use Rattle.std.specs.Cmp.Lexicographic.{other_text, same_text}
use Rattle.mlsign_program.proofs.Checking.{false_of, found_of, one_more, true_of, whole}
use Rattle.mlsign_program.specs.Sums.{HasFound, Names}
use Rattle.mlsign_program.proofs.sums.check_listed.Goals as goal

pub loop-sum-preserved-then-ne : goal.loop-sum-preserved-then-ne
loop-sum-preserved-then-ne c = record {
  listed = c.loop-sum.invariant.listed;
  found =
      one_more (λ sum. Names c.args.file.now sum → HasFound sum) c.args.sums.now c.loop-sum.sum-index c.sum-item.result c.sum-item.is c.loop-sum-test.true
      c.loop-sum.invariant.found (λ named. absurd (other_text _ _ (false_of _ c.if-ne.ensures) (c.as_str.ensures.value ∙ named)));
}

pub loop-sum-preserved : goal.loop-sum-preserved
loop-sum-preserved c = record {
  listed =
      λ _. (
        c.loop-sum.sum-index,
        c.sum-item.result,
        c.loop-sum-test.true,
        sym c.sum-item.is,
        sym c.as_str.ensures.value ∙ same_text _ _ (true_of _ c.if-ne.ensures),
      );
  found =
      one_more (λ sum. Names c.args.file.now sum → HasFound sum) c.args.sums.now c.loop-sum.sum-index c.sum-item.result c.sum-item.is c.loop-sum-test.true
      c.loop-sum.invariant.found
      (λ _. found_of c.sum-item.result c.check_file-end.result c.check_file-end.ensures (rw c.if-not-branch.false at c.in_ok-tell.ensures));
}

pub returns-else-not-is_listed : goal.returns-else-not-is_listed
returns-else-not-is_listed c =
    λ _. (
      c.loop-sum.invariant.listed c.if-not-is_listed.false,
      whole (λ sum. Names c.args.file.now sum → HasFound sum) c.args.sums.now c.loop-sum.sum-index c.loop-sum-test.false c.loop-sum.invariant.found,
    )
