use Rattle.std.proofs.Common.{refl}
use Rattle.std.proofs.lemmas.List.Elements.{All-more}
use Rattle.mlsign_program.proofs.Checking.{when_good, whole}
use Rattle.mlsign_program.specs.Sums.{IsListed}
use Rattle.mlsign_program.proofs.sums.check_named.Goals as goal

pub loop-file-preserved : goal.loop-file-preserved
loop-file-preserved c =
    λ good.
    let counted = c.in_ok-count.ensures.0 good in
    let told = rw counted.1 at c.check_listed-end.ensures in
    All-more (λ file. IsListed c.args.sums.now file.now) c.args.files.now c.loop-file.file-index _ c.loop-file-test.true (c.loop-file.invariant counted.0) (told refl)

pub returns : goal.returns
returns c =
    when_good c.worst.result _ _ c.worst.ensures
    (λ good. whole (λ file. IsListed c.args.sums.now file.now) c.args.files.now c.loop-file.file-index c.loop-file-test.false (c.loop-file.invariant good))
