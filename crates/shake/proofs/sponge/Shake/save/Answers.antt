use Rattle.std.proofs.Common.{rules, ◌≡◌, length, arith, ◌∙◌}
use Rattle.std.proofs.lemmas.List.{take_all}
use Rattle.shake.specs.Lengths.{length-bytes}
use Rattle.shake.specs.Shake.{bytes}
use Rattle.shake.proofs.Saved.{is_saved}
use Rattle.shake.proofs.sponge.Shake.save.Goals as goal

pub returns : goal.returns
returns g c =
    let hasher = c.args.self.now in
    let size : length hasher.lanes ≡ 25 = search rules in
    let lanes : c.write_block.new.block ≡ bytes hasher.lanes = c.write_block.ensures.written ∙ take_all _ (bytes hasher.lanes) (omega (arith, length-bytes hasher.lanes, size)) in
    λ m held. rw (lanes, c.copy_from_slice.ensures.after, c.copy_from_slice-2.ensures.after) (is_saved g.row.R hasher.used hasher.lanes hasher.block m size (λ i below. c.write_block.ensures.words i) (search rules) (search rules) held)
