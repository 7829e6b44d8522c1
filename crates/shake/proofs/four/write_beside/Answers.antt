use Rattle.std.proofs.Common.{ℕ, [], ◌∷◌, slice_index, arith}
use Rattle.std.proofs.lemmas.List.FromFn.{fill_by_all}
use Rattle.shake.proofs.four.write_beside.Goals as goal

pub returns : goal.returns
returns c =
    let f = λ (i : ℕ). slice_index c.args.a.now i ∷ slice_index c.args.b.now i ∷ slice_index c.args.c.now i ∷ slice_index c.args.d.now i ∷ [] in
    fill_by_all f c.loop-index.states 25 [] c.loop-index.invariant.size (λ i h. c.loop-index.invariant.written i (omega arith))
