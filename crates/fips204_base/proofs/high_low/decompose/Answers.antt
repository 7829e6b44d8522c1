use Rattle.fips204_base.proofs.Names.{common_steps, nat_abs, ints, to_z-of_z, residue, residue_below}
use Rattle.std.proofs.Common.{ℕ, ℤ, ◌≡◌, ◌<◌, ◌+◌, ◌-◌, ◌*◌, ◌/◌, ◌*ℤ◌, inl, inr, pos, arith, w32, to_z, of_z}
use Rattle.fips204_base.specs.Rounding.{IsGamma2}
use Rattle.fips204_base.proofs.Rounding.{high_bits-edge, low_bits-edge, high_bits-other, low_bits-other}
use Rattle.fips204_base.proofs.high_low.decompose.Goals as goal
use Rattle.fips204_base.proofs.high_low.decompose.Goals.{After-nearest_quotient-quotient}

-- the multiple, as the code has it, and its size
multiple : (gamma2 : ℤ) (n q : ℕ) → IsGamma2 gamma2 → n < 8380417 → q ≡ (n + nat_abs gamma2 - 1) / (2 * nat_abs gamma2)
    → (to_z w32 q *ℤ to_z w32 (of_z w32 (pos 2 *ℤ to_z w32 (of_z w32 gamma2))) ≡ pos (q * (2 * nat_abs gamma2))) × (q * (2 * nat_abs gamma2) < 16777216) × (q < 64)
multiple gamma2 n q (inl is) h e = let q_is = rw is at e in rw is (omega (arith, ints, h, q_is), omega (arith, h, q_is), omega (arith, h, q_is))
multiple gamma2 n q (inr is) h e = let q_is = rw is at e in rw is (omega (arith, ints, h, q_is), omega (arith, h, q_is), omega (arith, h, q_is))

some : (gamma2 : ℤ) → IsGamma2 gamma2 → 0 < nat_abs gamma2
some gamma2 (inl is) = rw is (omega arith)
some gamma2 (inr is) = rw is (omega arith)

residue_is : (c : After-nearest_quotient-quotient) → c.full_reduce32-residue.result ≡ pos (residue c.args.r)
residue_is c = let e = c.full_reduce32-residue.ensures in rw (to_z-of_z w32 c.args.r c.ranges.r) at e

quotient_is : (c : After-nearest_quotient-quotient) → c.nearest_quotient-quotient.result ≡ (residue c.args.r + nat_abs c.args.gamma2 - 1) / (2 * nat_abs c.args.gamma2)
quotient_is c = grind (arith, ints, common_steps, residue_below, to_z-of_z, residue_is)

known : (c : After-nearest_quotient-quotient)
    → (to_z w32 c.nearest_quotient-quotient.result *ℤ to_z w32 (of_z w32 (pos 2 *ℤ to_z w32 (of_z w32 c.args.gamma2))) ≡ pos (c.nearest_quotient-quotient.result * (2 * nat_abs c.args.gamma2)))
    × (c.nearest_quotient-quotient.result * (2 * nat_abs c.args.gamma2) < 16777216) × (c.nearest_quotient-quotient.result < 64)
known c = multiple c.args.gamma2 (residue c.args.r) _ c.requires.set (residue_below c.args.r) (quotient_is c)

pub returns-then-multiple-eq8380416-clause-high : goal.returns-then-multiple-eq8380416-clause-high
returns-then-multiple-eq8380416-clause-high c =
    grind (arith, ints, common_steps, After-nearest_quotient-quotient, known, high_bits-edge, some, quotient_is)

pub returns-then-multiple-eq8380416-clause-low : goal.returns-then-multiple-eq8380416-clause-low
returns-then-multiple-eq8380416-clause-low c =
    grind (arith, ints, common_steps, After-nearest_quotient-quotient, known, low_bits-edge, some, quotient_is, residue_below, residue_is)

pub returns-else-multiple-eq8380416-clause-high : goal.returns-else-multiple-eq8380416-clause-high
returns-else-multiple-eq8380416-clause-high c =
    grind (arith, ints, common_steps, After-nearest_quotient-quotient, known, high_bits-other, some, quotient_is)

pub returns-else-multiple-eq8380416-clause-low : goal.returns-else-multiple-eq8380416-clause-low
returns-else-multiple-eq8380416-clause-low c =
    grind (arith, ints, common_steps, After-nearest_quotient-quotient, known, low_bits-other, some, quotient_is, residue_below, residue_is)
