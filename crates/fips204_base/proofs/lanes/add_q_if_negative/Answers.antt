use Rattle.std.proofs.Common.{ℕ, ℤ, ◌≡◌, ◌<◌, ◌≤◌, ◌∙◌, pos, get_or, length, arith, sym, ap, subst, to_z, List, map}
use Rattle.fips204_base.proofs.Names.{nat_abs, w32, fits_signed_from_abs, SFits, residue, lane, AreEight, residue_below}
use Rattle.fips204_base.proofs.LaneReductions.{raised, raised_is, raised_row, raised_row_is, word_at, word_length}
use Rattle.fips204_base.proofs.lanes.add_q_if_negative.Goals as goal

module _ (x : List ℤ) (ix : AreEight x) (bound : (j : ℕ) → j < 8 → nat_abs (lane x j) ≤ 8380416) where
  whole : raised_row 8 x ≡ map raised x
  whole = raised_row_is 8 x ix.eight

  at : (j : ℕ) → j < 8 → get_or (map (to_z w32) (raised_row 8 x)) j (pos 0) ≡ pos (residue (lane x j))
  at j h = ap (λ (l : List ℕ). get_or (map (to_z w32) l) j (pos 0)) whole ∙ (word_at raised x j (omega (arith, h, ix.eight)) ∙ raised_is (lane x j) (bound j h))

  fit : (j : ℕ) → j < 8 → SFits w32 (get_or (map (to_z w32) (raised_row 8 x)) j (pos 0))
  fit j h = let below = residue_below (lane x j) in subst (λ z. SFits w32 z) (sym (at j h)) (fits_signed_from_abs w32 _ (omega (arith, below)))

pub invariant_of-result : goal.invariant_of-result
invariant_of-result c =
    let x = c.x.inside.0 in
    let bound = rw (sym c.x.view_is) at c.requires in
    record {
      eight = ap (λ (l : List ℕ). length (map (to_z w32) l)) (whole x c.x.invariant bound) ∙ (word_length raised x ∙ c.x.invariant.eight);
      fits = fit x c.x.invariant bound;
    }

pub returns : goal.returns
returns c = rw (sym c.x.view_is) (at c.x.inside.0 c.x.invariant (rw (sym c.x.view_is) at c.requires))
