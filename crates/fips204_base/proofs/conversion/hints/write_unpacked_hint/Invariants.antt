use Rattle.std.proofs.Common.{ℕ, ◌≡◌, ◌<◌, ◌+◌, ◌≤◌, get_or, take, length, pos}
use Rattle.fips204_base.proofs.Names.{All, all_ones, PolynomialInRange, total_before}
use Rattle.fips204_base.proofs.conversion.hints.write_unpacked_hint.Given as goal

abbrev pub invariant-loop-i : goal.invariant-loop-i
invariant-loop-i g l = record {
  count : length l.h ≡ g.row.K;
  at : l.index ≡ total_before l.limit l.y l.i;
  few : l.index ≤ l.limit;
  places : take l.index l.y ≡ all_ones (take l.i l.h);
  totals : (k : ℕ) → k < l.i → get_or l.y (l.limit + k) 0 ≡ length (all_ones (take (k + 1) l.h));
  sizes : All (λ w. length w.0 ≡ 256) (take l.i l.h);
  bits : All (λ w. PolynomialInRange (pos 0) (pos 1) w.0) (take l.i l.h);
}

abbrev pub invariant-loop-k : goal.invariant-loop-k
invariant-loop-k g l = (j : ℕ) → l.index ≤ j → j < l.k → get_or l.y j 0 ≡ 0
