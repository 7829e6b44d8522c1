use Rattle.std.proofs.Common.{ℕ, List, [], arith, ◌≡◌, ◌∙◌, sym, ap, length, length-take, take, Bor}
use Rattle.std.proofs.lemmas.List.Folds.{length-flat_map-take}
use Rattle.mldsa_bench.proofs.streams.input_chosen.joined.Goals as goal

pub returns-then-part-count-clause-size : goal.returns-then-part-count-clause-size
returns-then-part-count-clause-size c =
    let f = λ (part : Bor (List ℕ)). part.now in
    let kept = c.loop-part.invariant in
    let given : length (take c.loop-part.count c.loop-part.room) ≡ c.loop-part.count = grind (arith, length-take, kept.size, kept.within) in
    let joined = sym (ap length kept.bytes) ∙ given in
    let h = c.if-part-count.true in
    let nothing : Bor (List ℕ) = record { ref_ptr = (0, 0); now = [] } in
    omega (arith, joined, h, length-flat_map-take f c.args.parts.now c.loop-part.part-index nothing c.loop-part-test.true)
