use Rattle.fips204_base.proofs.Names.{common_steps, nat_abs, int_lt, ints, to_z-of_z, residue, residue_below}
use Rattle.std.proofs.Common.{ℤ, ◌≡◌, ◌<◌, pos, true, arith}
use Rattle.fips204_base.specs.Rounding.{high_bits, low_bits, high_count}
use Rattle.fips204_base.proofs.Rounding.{high_bits_below, hinted}
use Rattle.fips204_base.proofs.high_low.use_hint.Goals as goal
use Rattle.fips204_base.proofs.high_low.use_hint.Goals.{After-high_count-last}

-- what is known where there is a hint, in the naturals that the definition takes
record Hinted (gamma2 h r high low count : ℤ) : Type 0 where
  high_is : high ≡ pos (high_bits (nat_abs gamma2) (residue r))
  low_is : low ≡ low_bits (nat_abs gamma2) (residue r)
  below : high_bits (nat_abs gamma2) (residue r) < high_count (nat_abs gamma2)
  count_is : count ≡ pos (high_count (nat_abs gamma2))
  hint : int_lt (pos 0) h ≡ true

known : (c : After-high_count-last) → Hinted c.args.gamma2 c.args.h c.args.r c.decompose-high.result.0 c.decompose-high.result.1 c.high_count-last.result
known c = grind (arith, ints, common_steps, to_z-of_z, high_bits_below, residue_below)

pub returns-then-h-eq0 : goal.returns-then-h-eq0
returns-then-h-eq0 c = grind (arith, ints, common_steps, to_z-of_z, hinted)

pub returns-else-high-last : goal.returns-else-high-last
returns-else-high-last c = let k = known (goal.at.returns-else-high-last c).After-high_count-last in grind (arith, ints, hinted, k)

pub returns-else-high-eq0 : goal.returns-else-high-eq0
returns-else-high-eq0 c = let k = known (goal.at.returns-else-high-eq0 c).After-high_count-last in grind (arith, ints, hinted, k)

pub returns-then-high-last : goal.returns-then-high-last
returns-then-high-last c = let k = known (goal.at.returns-then-high-last c).After-high_count-last in grind (arith, ints, hinted, k)

pub returns-then-high-eq0 : goal.returns-then-high-eq0
returns-then-high-eq0 c = let k = known (goal.at.returns-then-high-eq0 c).After-high_count-last in grind (arith, ints, hinted, k)

pub overflow_add-result : goal.overflow_add-result
overflow_add-result c = let k = known (goal.at.overflow_add-result c).After-high_count-last in grind (arith, ints, k)
