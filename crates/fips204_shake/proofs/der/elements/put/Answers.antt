use Rattle.std.proofs.Common.{ℕ, List, [], Bor, arith}
use Rattle.std.proofs.lemmas.List.Folds.{length-flat_map-take}
use Rattle.fips204_shake.proofs.der.elements.put.Goals as goal

pub slice_bounds-copy_from_slice-end : goal.slice_bounds-copy_from_slice-end
slice_bounds-copy_from_slice-end c =
    let enough = length-flat_map-take (λ (part : Bor (List ℕ)). part.now) c.args.parts.now c.loop-part.part-index (record { ref_ptr = (0, 0); now = [] }) c.loop-part-test.true in
    omega (arith, enough, c.loop-part.invariant.at, c.requires, c.loop-part.auto.out)
