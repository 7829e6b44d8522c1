use Rattle.std.proofs.Common.{ℕ, [], slice_index, slice_index_or, arith}
use Rattle.std.proofs.lemmas.List.FromFn.{fill_by_all}
use Rattle.shake.proofs.four.state_at.Goals as goal

pub returns : goal.returns
returns c =
    let f = λ (i : ℕ). slice_index (slice_index_or c.args.states.now i []) c.args.j in
    fill_by_all f c.loop-index.state 25 0 c.loop-index.invariant.size (λ i h. c.loop-index.invariant.written i (omega arith))
