use Rattle.std.proofs.Common.{◌*◌, ◌+◌, refl, ap, sym, ◌∙◌, slice_index}
use Rattle.shake.specs.Keccak.{round, rounds, round_constants}
use Rattle.shake.proofs.Rounds.{next_rounds}
use Rattle.shake.proofs.permutation.f1600.Goals as goal

pub loop-pair-init : goal.loop-pair-init
unfolding rounds
loop-pair-init c = refl

pub loop-pair-preserved : goal.loop-pair-preserved
loop-pair-preserved c =
    let n = c.loop-pair.pair in
    c.round-a.ensures
    ∙ ap (λ a. round a (slice_index round_constants (2 * n + 1)))
    (c.round-b.ensures ∙ ap (λ a. round a (slice_index round_constants (2 * n))) c.loop-pair.invariant)
    ∙ sym (next_rounds c.args.state.now n)
