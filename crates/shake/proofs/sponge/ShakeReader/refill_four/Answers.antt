use Rattle.std.proofs.Common.{rules}
use Rattle.shake.specs.Pieces.{next}
use Rattle.shake.proofs.SideBySide.{begun}
use Rattle.shake.proofs.sponge.ShakeReader.refill_four.Goals as goal

pub returns-then-c-clause-first : goal.returns-then-c-clause-first
returns-then-c-clause-first g c = begun g.row.R c.args.a.now _ (next c.begin_block.new.self) (search rules) c.if-a.true c.f1600_four.ensures.first c.begin_block.ensures

pub returns-then-c-clause-second : goal.returns-then-c-clause-second
returns-then-c-clause-second g c = begun g.row.R c.args.b.now _ (next c.begin_block-then-c.new.self) (search rules) c.if-b.true c.f1600_four.ensures.second c.begin_block-then-c.ensures

pub returns-then-c-clause-third : goal.returns-then-c-clause-third
returns-then-c-clause-third g c = begun g.row.R c.args.c.now _ (next c.begin_block-then-c-2.new.self) (search rules) c.if-c.true c.f1600_four.ensures.third c.begin_block-then-c-2.ensures
