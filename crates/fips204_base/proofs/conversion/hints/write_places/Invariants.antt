use Rattle.std.proofs.Common.{◌≡◌, ◌+◌, ◌++◌, take, drop, length}
use Rattle.fips204_base.proofs.Names.{ones_below}
use Rattle.fips204_base.proofs.conversion.hints.write_places.Given as goal

abbrev pub invariant-loop-j : goal.invariant-loop-j
invariant-loop-j l = record {
  size : length l.y ≡ length l.fn.y;
  end : l.at ≡ l.from + length (ones_below l.w l.j);
  places : take l.at l.y ≡ take l.from l.fn.y ++ ones_below l.w l.j;
  rest : drop l.at l.y ≡ drop l.at l.fn.y;
}
