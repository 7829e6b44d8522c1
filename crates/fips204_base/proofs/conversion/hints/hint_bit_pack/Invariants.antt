use Rattle.std.proofs.Common.{ℕ, ◌≡◌, ◌<◌, ◌+◌, ◌≤◌, get_or, take, length}
use Rattle.fips204_base.proofs.Names.{all_ones}
use Rattle.fips204_base.proofs.conversion.hints.hint_bit_pack.Given as goal

abbrev pub invariant-loop-i : goal.invariant-loop-i
invariant-loop-i g l = record {
  at : l.index ≡ length (all_ones (take l.i l.h));
  places : take l.index l.y ≡ all_ones (take l.i l.h);
  totals : (k : ℕ) → k < l.i → get_or l.y (l.limit + k) 0 ≡ length (all_ones (take (k + 1) l.h));
  zeros : (j : ℕ) → l.index ≤ j → j < l.limit → get_or l.y j 0 ≡ 0;
}
