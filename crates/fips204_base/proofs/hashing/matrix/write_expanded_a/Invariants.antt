use Rattle.std.proofs.Common.{◌≡◌, ◌*◌, length, map, take, Some}
use Rattle.fips204_base.proofs.Names.{range_with_len, AreAhead, sampled_row, all_present}
use Rattle.fips204_base.proofs.hashing.matrix.write_expanded_a.Given as goal

abbrev pub invariant-loop-r : goal.invariant-loop-r
invariant-loop-r g l =
    (length l.matrix ≡ g.row.K)
    × (all_present (map (sampled_row g.G.Xof.front l.rho g.row.L) (range_with_len 0 l.r)) ≡ Some (take l.r l.matrix))
    × AreAhead g.G.Xof.front l.rho g.row.L (g.row.K * g.row.L) (l.r * g.row.L) l.ahead
