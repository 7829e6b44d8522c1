use Rattle.std.proofs.Common.{◌≡◌, ◌*◌, ◌+◌, length, map, take, Some}
use Rattle.fips204_base.proofs.Names.{range_with_len, AreAhead, sampled_entry, all_present}
use Rattle.fips204_base.proofs.hashing.matrix.write_next_row.Given as goal

abbrev pub invariant-loop-s : goal.invariant-loop-s
invariant-loop-s g l =
    (length l.row ≡ g.row.L)
    × (all_present (map (sampled_entry g.G.Xof.front l.rho l.r) (range_with_len 0 l.s)) ≡ Some (take l.s l.row))
    × AreAhead g.G.Xof.front l.rho g.row.L (g.row.K * g.row.L) (l.r * g.row.L + l.s) l.ahead
