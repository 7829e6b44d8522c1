use Rattle.std.proofs.Common.{ℕ, ◌≡◌, ◌<◌, ◌+◌, get_or}
use Rattle.mldsa_bench.proofs.streams.written_fronts.PatternedByXofReader.read.Given as goal

abbrev pub invariant-loop-i : goal.invariant-loop-i
invariant-loop-i g l = (k : ℕ) → k < l.i → get_or l.out k 0 ≡ g.P.Pattern.byte (l.fn.self.given + k)
