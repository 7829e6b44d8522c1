use Rattle.std.proofs.Common.{arith, length-drop}
use Rattle.std.proofs.lemmas.List.FromFn.{length-map-range_with_len}
use Rattle.mldsa_bench.proofs.streams.written_fronts.PatternedByXofReader.left.Goals as goal

pub returns : goal.returns
returns g c = grind (arith, length-drop, length-map-range_with_len)
