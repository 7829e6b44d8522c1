use Rattle.std.proofs.Common.{◌≡◌, ◌≤◌, ◌+◌, ◌*◌, length, take}
use Rattle.fips204.proofs.Names.{all_ones, ones_below}
use Rattle.fips204.proofs.ml_dsa.signing.number_of_ones.Given as goal

abbrev pub invariant-loop-row : goal.invariant-loop-row
invariant-loop-row g l = record {
  value : l.total ≡ length (all_ones (take l.row-index l.h));
  few : l.total ≤ 256 * l.row-index;
}

abbrev pub invariant-loop-n : goal.invariant-loop-n
invariant-loop-n g l = record {
  value : l.total ≡ l.initial.total + length (ones_below l.row l.n);
  few : l.total ≤ l.initial.total + l.n;
}
