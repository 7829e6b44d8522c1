use Rattle.std.proofs.Common.{◌∙◌, length}
use Rattle.shake.proofs.names.read_256.Goals as goal

pub returns : goal.returns
returns c = c.read.ensures.given ∙ c.reader-reader.ensures (length c.args.out.now)
