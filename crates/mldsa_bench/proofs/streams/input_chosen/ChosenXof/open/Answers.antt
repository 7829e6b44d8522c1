use Rattle.std.proofs.Common.{◌∙◌, ap, replicate}
use Rattle.mldsa_bench.proofs.streams.input_chosen.ChosenXof.open.Goals as goal

pub returns : goal.returns
returns g c = c.new.ensures ∙ ap (replicate 4096) c.byte_over.ensures
