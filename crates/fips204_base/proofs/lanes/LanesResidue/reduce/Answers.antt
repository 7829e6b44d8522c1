use Rattle.std.proofs.Common.{ℕ, ℤ, ◌≡◌, ◌<◌, ◌≤◌, ◌∙◌, ◌-ℤ◌, ◌*ℤ◌, neg_ℤ, pos, get_or, length, arith, sym, ap, subst, to_z, List, map}
use Rattle.fips204_base.proofs.Names.{nat_abs, w32, ints, fits_signed_from_abs, SFits, residue, lane, AreEight, residue_multiple}
use Rattle.fips204_base.proofs.LaneReductions.{reduced, quotient, reduced_small, reduced_is, reduced_row, reduced_row_is, word_at, word_length}
use Rattle.fips204_base.proofs.lanes.LanesResidue.reduce.Goals as goal

module _ (x : List ℤ) (ix : AreEight x) (bound : (j : ℕ) → j < 8 → nat_abs (lane x j) < 2143289344) where
  whole : reduced_row 8 x ≡ map reduced x
  whole = reduced_row_is 8 x ix.eight

  at : (j : ℕ) → j < 8 → get_or (map (to_z w32) (reduced_row 8 x)) j (pos 0) ≡ lane x j -ℤ quotient (lane x j) *ℤ pos 8380417
  at j h = ap (λ (l : List ℕ). get_or (map (to_z w32) l) j (pos 0)) whole ∙ (word_at reduced x j (omega (arith, h, ix.eight)) ∙ reduced_is (lane x j) (ix.fits j h) (bound j h))

  small : (j : ℕ) → j < 8 → nat_abs (get_or (map (to_z w32) (reduced_row 8 x)) j (pos 0)) ≤ 8380416
  small j h = subst (λ z. nat_abs z ≤ 8380416) (sym (at j h)) (reduced_small (lane x j) (bound j h))

  fit : (j : ℕ) → j < 8 → SFits w32 (get_or (map (to_z w32) (reduced_row 8 x)) j (pos 0))
  fit j h = let s = small j h in fits_signed_from_abs w32 _ (omega (arith, s))

pub invariant_of-result : goal.invariant_of-result
invariant_of-result c =
    let x = c.self.inside.0 in
    let bound = rw (sym c.self.view_is) at c.requires.range in
    record {
      eight = ap (λ (l : List ℕ). length (map (to_z w32) l)) (whole x c.self.invariant bound) ∙ (word_length reduced x ∙ c.self.invariant.eight);
      fits = fit x c.self.invariant bound;
    }

pub returns-clause-value : goal.returns-clause-value
returns-clause-value c =
    let bound = rw (sym c.self.view_is) at c.requires.range in
    rw (sym c.self.view_is) (λ j h.
    let x = lane c.self.inside.0 j in
    subst (λ z. residue z ≡ residue x) (sym (at c.self.inside.0 c.self.invariant bound j h)) (residue_multiple (x -ℤ quotient x *ℤ pos 8380417) x (neg_ℤ (quotient x)) (omega (arith, ints))))

pub returns-clause-small : goal.returns-clause-small
returns-clause-small c = small c.self.inside.0 c.self.invariant (rw (sym c.self.view_is) at c.requires.range)
