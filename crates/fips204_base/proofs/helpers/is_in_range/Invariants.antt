use Rattle.std.proofs.Common.{ℕ, ℤ, ◌<◌, ◌↔◌, pos, ◌-ℤ◌, ◌≤ℤ◌, get_or, IsTrue}
use Rattle.fips204_base.proofs.helpers.is_in_range.Given as goal

abbrev pub invariant-loop-x : goal.invariant-loop-x
invariant-loop-x l = IsTrue l.inside
    ↔ ((k : ℕ) (d : ℤ) → k < l.x-index → ((pos 0 -ℤ l.lo) ≤ℤ get_or l.w.0 k d) × (get_or l.w.0 k d ≤ℤ l.hi))
