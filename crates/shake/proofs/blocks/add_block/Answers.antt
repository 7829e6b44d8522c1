use Rattle.std.proofs.Common.{ℕ, inl, inr, arith, sym, ap, ◌∙◌, slice_index}
use Rattle.std.proofs.lemmas.Bool.{cases_lt}
use Rattle.std.proofs.lemmas.List.FromFn.{fill_by_all}
use Rattle.std.specs.Int.Bits.{xor_zero_r}
use Rattle.shake.specs.Keccak.{◌⊕◌}
use Rattle.shake.specs.Shake.{block_lane, add_block}
use Rattle.shake.proofs.BlockBytes.{block_lane-past}
use Rattle.shake.proofs.blocks.add_block.Goals as goal

pub returns : goal.returns
unfolding add_block
returns c =
    let kept = c.loop-index.invariant in
    let state = c.args.state.now in
    let block = c.args.block.now in
    fill_by_all (λ k. slice_index state k ⊕ block_lane block k) c.loop-index.state 25 0 kept.size (λ k below. elim (cases_lt k c.loop-index.index) [
      | inl lt ↦ kept.added k lt
      | inr ge ↦
          let none = block_lane-past block k (omega arith) in
          kept.kept k ge ∙ sym (ap (λ (lane : ℕ). slice_index state k ⊕ lane) none ∙ xor_zero_r (slice_index state k))
    ])
