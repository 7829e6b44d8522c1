use Rattle.std.proofs.Common.{ℕ, ℤ, ◌≡◌, ◌<◌, ◌≤◌, ◌*◌, ◌+◌, ◌*ℤ◌, ◌∙◌, pos, get_or, length, arith, rules, ap, subst, sym, to_z, of_z, List, map}
use Rattle.fips204_base.proofs.Names.{nat_abs, w32, w64, int_div_euclid, fits_signed_from_abs, SFits, residue, IsCongruent, lane, congruent_trans, residue_mul, montgomery_congruent, read_one}
use lib.Signed.{shr_z}
use Rattle.std.specs.Int.{int_wrap}
use Rattle.std.proofs.lemmas.Int.{SFits-int_wrap}
use Rattle.fips204_base.specs.Lanes.{HasQuotient}
use Rattle.fips204_base.proofs.LaneProducts.{Taken, taken, taken_is, lowered, lowered_is, upper_half, high_half_fits, joined_halves, same_word, wrapped_low, row, row_is, read_at, taken_high, taken_fits}
use Rattle.fips204_base.proofs.lanes.wide_products.Goals as goal

-- the arguments
module _ (x : List ℤ) (four : length x ≡ 4) (fits : (j : ℕ) → j < 4 → SFits w32 (lane x j))
    (p : ℤ) (p_fits : SFits w64 p) (bound : nat_abs (int_wrap w32 p) ≤ 8380416) (quotient : HasQuotient p) where
  -- the factor and its companion, as the vectors hold them
  abbrev F : ℕ
  F = lowered (of_z w64 p)

  abbrev G : ℕ
  G = of_z w64 (shr_z (to_z w64 (of_z w64 p)) 4294967296)

  abbrev factor : ℤ
  factor = int_wrap w32 p

  abbrev high : ℤ
  high = int_div_euclid p (pos 4294967296)

  one : (j : ℕ) → j < 4 → Taken (lane x j) factor (taken F G (lane x j))
  one j h =
      let low = wrapped_low p in
      let factor_fits = SFits-int_wrap w32 p in
      let e = same_word (high *ℤ pos 8380417) factor (quotient ∙ low) in
      taken_is (lane x j) factor high e.0 F G (fits j h) factor_fits (high_half_fits p p_fits.sfits) bound e.1
      (lowered_is p factor p_fits factor_fits low) (upper_half p factor high p_fits (joined_halves p factor low))

  -- the products, and the lanes that the caller sees
  read : (j : ℕ) → j < 4 → get_or (map (to_z w64) (row 4 F G x)) j (pos 0) ≡ to_z w64 (taken F G (lane x j))
  read j h = ap (λ (l : List ℕ). get_or (map (to_z w64) l) j (pos 0)) (row_is 4 F G x four) ∙ read_at (taken F G) x j (omega (arith, h, four))

  fit : (j : ℕ) → j < 4 → SFits w64 (get_or (map (to_z w64) (row 4 F G x)) j (pos 0))
  fit j h = subst (λ z. SFits w64 z) (sym (read j h)) (taken_fits _ _ _ (one j h))

  module _ (l : List ℤ) (j : ℕ) (h : j < 4) (e : lane l (2 * j + 1) ≡ int_div_euclid (get_or (map (to_z w64) (row 4 F G x)) j (pos 0)) (pos 4294967296)) where
    returned : lane (map (to_z w32) (map (of_z w32) l)) (2 * j + 1) ≡ (one j h).value
    returned =
        let small = (one j h).small in
        let is = e ∙ ap (λ (z : ℤ). int_div_euclid z (pos 4294967296)) (read j h) ∙ taken_high _ _ _ (one j h) in
        read_one l (2 * j + 1) (subst (λ z. SFits w32 z) (sym is) (fits_signed_from_abs w32 _ (omega (arith, small)))) ∙ is

    congruent : IsCongruent (4294967296 * residue (lane (map (to_z w32) (map (of_z w32) l)) (2 * j + 1))) (residue (lane x j) * residue factor)
    congruent =
        let t = one j h in
        subst (λ z. IsCongruent (4294967296 * residue z) (residue (lane x j) * residue factor)) (sym returned)
        (congruent_trans (montgomery_congruent (lane x j *ℤ factor) t.value t.low t.sum) (residue_mul (lane x j) factor))

    small : nat_abs (lane (map (to_z w32) (map (of_z w32) l)) (2 * j + 1)) ≤ 8380416
    small = subst (λ z. nat_abs z ≤ 8380416) (sym returned) (one j h).small

pub halves-requires : goal.halves-requires
halves-requires c = fit c.args.x (search rules) c.requires.fits c.args.words c.ranges.words c.requires.factor c.requires.quotient

pub returns-clause-congruent : goal.returns-clause-congruent
returns-clause-congruent c = λ j h. congruent c.args.x (search rules) c.requires.fits c.args.words c.ranges.words c.requires.factor c.requires.quotient c.halves.result j h (c.halves.ensures j h)

pub returns-clause-small : goal.returns-clause-small
returns-clause-small c = λ j h. small c.args.x (search rules) c.requires.fits c.args.words c.ranges.words c.requires.factor c.requires.quotient c.halves.result j h (c.halves.ensures j h)
