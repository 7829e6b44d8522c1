use Rattle.std.proofs.Common.{length, ◌-◌, refl, rules, ◌≡◌, replicate}
use Rattle.shake.proofs.BlockBytes.{padded_block}
use Rattle.shake.proofs.blocks.pad.Goals as goal

pub returns : goal.returns
returns c =
    let zeros : c.fill.new.self ≡ replicate (length c.args.block.now - c.args.used) 0 = search rules in
    padded_block c.args.block.now c.fill.new.self c.args.used (length c.args.block.now - c.args.used) c.requires refl zeros
