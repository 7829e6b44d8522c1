use Rattle.std.proofs.Common.{◌*◌, ◌+◌, refl, sym, ap, ◌∙◌, slice_index, List, ℕ}
use Rattle.shake.specs.Four.{state_at}
use Rattle.shake.specs.Keccak.{round, rounds, round_constants}
use Rattle.shake.proofs.Rounds.{next_rounds}
use Rattle.shake.proofs.four.f1600x4.Goals as goal

pub loop-pair-init : goal.loop-pair-init
unfolding rounds
loop-pair-init c = record { four = c.requires; permuted = λ j h. refl }

pub loop-pair-preserved : goal.loop-pair-preserved
loop-pair-preserved c =
    let n = c.loop-pair.pair in
    let both : List ℕ → List ℕ = λ s. round (round s (slice_index round_constants (2 * n))) (slice_index round_constants (2 * n + 1)) in
    record {
      four = c.two_rounds.ensures.four;
      permuted = λ j h. c.two_rounds.ensures.rounds j h
          ∙ ap both (c.loop-pair.invariant.permuted j h)
          ∙ sym (next_rounds (state_at c.args.states.now j) n);
    }
