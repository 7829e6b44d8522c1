use Rattle.std.proofs.Common.{◌≡◌, ◌++◌, ◌-◌, take, length, arith, refl, rules}
use Rattle.std.proofs.lemmas.Slice.{overwrites}
use Rattle.shake.proofs.Absorbing.{absorbed_run, absorbed_block}
use Rattle.shake.proofs.sponge.Shake.update_run.Goals as goal
use borrow.Rule.Slice.PartMut.{put_mid}

pub returns-then-used-clause-taken : goal.returns-then-used-clause-taken
returns-then-used-clause-taken g c = λ m held.
    let s = c.args.self.now in
    let after = put_mid s.used (length s.block - s.used) s.block c.write_run-count.new.out in
    let size : length after ≡ g.row.R = search (rules, overwrites) in
    let full = absorbed_run g.row.R s.lanes s.block c.args.input.now _ _ s.used g.row.R (length s.block - s.used) c.write_run-count.result m held
    (omega (arith, s.below)) (omega (arith, c.write_run-count.ensures.count)) c.if-used.true c.write_run-count.ensures.copied in
    rw (c.f1600.ensures, c.add_block.ensures) (absorbed_block g.row.R s.lanes after after (m ++ take c.write_run-count.result c.args.input.now) full size)

pub returns-else-used-clause-taken : goal.returns-else-used-clause-taken
returns-else-used-clause-taken g c = λ m held.
    let s = c.args.self.now in
    absorbed_run g.row.R s.lanes s.block c.args.input.now _ _ s.used _ (length s.block - s.used) c.write_run-count.result m held
    (omega (arith, s.below)) (omega (arith, c.write_run-count.ensures.count)) refl c.write_run-count.ensures.copied
