use Rattle.std.proofs.Common.{◌∙◌, length}
use Rattle.shake.proofs.sponge.Shake.digest_xof.Goals as goal

pub returns : goal.returns
returns g c = c.read.ensures.given ∙ c.reader-reader.ensures (length c.args.out.now)
