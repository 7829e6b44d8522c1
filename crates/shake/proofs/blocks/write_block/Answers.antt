use Rattle.std.proofs.Common.{length, ◌*◌, ◌∙◌, ◌≡◌, sym, rules, refl, arith}
use Rattle.std.proofs.lemmas.List.{take_all}
use Rattle.std.proofs.lemmas.Slice.{overwrites}
use Rattle.shake.proofs.BlockBytes.{bytes_written}
use Rattle.shake.proofs.blocks.write_block.Goals as goal

pub loop-index-init : goal.loop-index-init
loop-index-init c = record { size = refl; written = refl }

pub loop-index-preserved : goal.loop-index-preserved
loop-index-preserved c = record {
  size = search (rules, overwrites);
  written = bytes_written c.loop-index.block c.args.state.now _ c.loop-index.index _ c.loop-index.invariant.written (omega arith) (omega arith)
      (c.copy_from_slice.ensures.after ∙ c.to_le_bytes.ensures);
}

pub returns : goal.returns
returns c =
    let all : 8 * c.loop-index.index ≡ length c.args.block.now = omega arith in
    record {
      written = sym (take_all (length c.args.block.now) c.loop-index.block (omega (arith, c.loop-index.invariant.size))) ∙ rw all at c.loop-index.invariant.written;
      words = c.fits-state;
    }
