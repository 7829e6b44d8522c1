use Rattle.std.proofs.Common.{◌≡◌, ◌≤◌, nat_abs, length}
use Rattle.std.specs.List.{All}
use Rattle.mldsa_bench.proofs.arithmetic.polynomials.within.Given as goal

abbrev pub invariant-loop-n : goal.invariant-loop-n
invariant-loop-n g l = (length l.out ≡ g.row.N) × All (λ y. nat_abs y ≤ 8380416) l.out
