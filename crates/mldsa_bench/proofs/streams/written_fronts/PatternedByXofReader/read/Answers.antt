use Rattle.std.proofs.Common.{arith, length-drop, length-take-le, get_or-take, get_or-drop, ext_get_or}
use Rattle.std.proofs.lemmas.List.FromFn.{length-map-range_with_len, get_or-map-range_with_len}
use Rattle.mldsa_bench.proofs.streams.written_fronts.PatternedByXofReader.read.Goals as goal

pub invariant_of-self : goal.invariant_of-self
invariant_of-self g c = record { within = grind (arith, c.requires, length-drop, length-map-range_with_len) }

pub returns-clause-given : goal.returns-clause-given
returns-clause-given g c = ext_get_or 0 c.loop-i.out _ (grind (arith, c.requires, length-take-le)) (λ k below. grind (arith, c.requires, c.loop-i.invariant, get_or-take, get_or-drop, length-drop, length-map-range_with_len, get_or-map-range_with_len))
