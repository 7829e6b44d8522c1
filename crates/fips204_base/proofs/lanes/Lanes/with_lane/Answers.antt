use Rattle.std.proofs.Common.{◌≡◌, ℕ, ℤ, ◌<◌, ◌∙◌, pos, get_or, map, List, arith, subst, sym, refl, to_z, of_z, Bool, true, false}
use Rattle.fips204_base.proofs.Names.{w32, to_z-of_z, eqb-true, eqb-false, SFits, AreEight, all_fit, placed_at, placed_other, length-placed}
use lib.Dec.{eqb}
use Rattle.fips204_base.proofs.LaneRows.{placed}
use Rattle.fips204_base.proofs.lanes.Lanes.with_lane.Goals as goal

module _ (xs : List ℤ) (i : AreEight xs) (r : ℕ) (x : ℤ) (within : r < 8) (fit : SFits w32 x) where
  abbrev out : List ℤ
  out = map (to_z w32) (placed 8 0 r (of_z w32 x) xs)

  at : get_or out r (pos 0) ≡ x
  at = placed_at 8 0 r (of_z w32 x) xs i.eight r within (omega arith) ∙ to_z-of_z w32 x fit

  other : (j : ℕ) → ¬ (j ≡ r) → SFits w32 (get_or xs j (pos 0)) → get_or out j (pos 0) ≡ get_or xs j (pos 0)
  other j differ f = placed_other 8 0 r (of_z w32 x) xs i.eight j (λ same. differ (omega (arith, same))) f

  given : (j : ℕ) → SFits w32 (get_or xs j (pos 0))
  given = all_fit xs (λ j h. i.fits j (omega (arith, h, i.eight)))

  fits : (j : ℕ) → j < 8 → SFits w32 (get_or out j (pos 0))
  fits j h = by (eqb j r) refl
    where
      by : (b : Bool) → eqb j r ≡ b → SFits w32 (get_or out j (pos 0))
      by true e = subst (λ k. SFits w32 (get_or out k (pos 0))) (sym (eqb-true j r e)) (subst (λ z. SFits w32 z) (sym at) fit)
      by false e = subst (λ z. SFits w32 z) (sym (other j (eqb-false j r e) (given j))) (given j)

pub invariant_of-result : goal.invariant_of-result
invariant_of-result c = record {
  eight = length-placed 8 0 c.args.r (of_z w32 c.args.x) c.self.inside.0 c.self.invariant.eight;
  fits = fits c.self.inside.0 c.self.invariant c.args.r c.args.x c.requires c.ranges.x;
}

pub returns-clause-lane : goal.returns-clause-lane
returns-clause-lane c = at c.self.inside.0 c.self.invariant c.args.r c.args.x c.requires c.ranges.x

pub returns-clause-others : goal.returns-clause-others
returns-clause-others c = rw (sym c.self.view_is) (λ j differ. other c.self.inside.0 c.self.invariant c.args.r c.args.x c.requires c.ranges.x j differ (given c.self.inside.0 c.self.invariant c.args.r c.args.x c.requires c.ranges.x j))
