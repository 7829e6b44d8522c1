use Rattle.std.proofs.Common.{rules}
use Rattle.shake.specs.Pieces.{next}
use Rattle.shake.proofs.SideBySide.{begun}
use Rattle.shake.proofs.sponge.ShakeReader.begin_if_given.Goals as goal

pub returns-then-self : goal.returns-then-self
returns-then-self g c = begun g.row.R c.args.self.now _ (next c.begin_block.new.self) (search rules) c.if-self.true c.requires c.begin_block.ensures
