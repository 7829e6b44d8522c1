use Rattle.std.proofs.Common.{◌≡◌, ℕ, ◌<◌, ◌≤◌, ◌+◌, ◌*◌, ◌++◌, ℤ, pos, get_or, length, arith, rules, refl, ap, sym, subst, ◌∙◌, to_z, of_z, List, [], ◌∷◌, map, lit<}
use Rattle.std.specs.Int.{int_wrap}
use Rattle.std.proofs.lemmas.List.{get_or-append-add, get_or-map, get_or_append_left, length-map}
use Rattle.fips204_base.proofs.Names.{nat_abs, w32, w64, to_z-of_z, fits_signed_from_abs, SFits, AreEight, residue, IsCongruent, lane, below_eight, readback}
use Rattle.fips204_base.proofs.LanePairs.{pair, low_read, high_read, low_at, high_at, highs}
use Rattle.fips204_base.proofs.LaneProducts.{lows}
use Rattle.fips204_base.proofs.lanes.mont_products.Goals as goal

abbrev at : List ℤ → List ℤ → ℕ → ℤ
at xs ys k = to_z w32 (get_or (map (of_z w32) xs ++ map (of_z w32) ys) k 0)

module _ (x : List ℤ) (i : AreEight x) where
  same : map (to_z w32) (map (of_z w32) x) ≡ x
  same = readback x (λ j h. i.fits j (omega (arith, h, i.eight)))

  stored_fit : (j : ℕ) → j < 8 → SFits w32 (lane (map (to_z w32) (map (of_z w32) x)) j)
  stored_fit = subst (λ l. (j : ℕ) → j < 8 → SFits w32 (lane l j)) (sym same) i.fits

  -- the even lanes and the odd ones, out of the pairs
  module _ (both : List ℤ) (four : length both ≡ 4)
      (pairs : (j : ℕ) → j < 4 → lane both j ≡ pair (lane (map (to_z w32) (map (of_z w32) x)) (2 * j)) (lane (map (to_z w32) (map (of_z w32) x)) (2 * j + 1))) where
    given : (j : ℕ) → j < 4 → lane both j ≡ pair (lane x (2 * j)) (lane x (2 * j + 1))
    given = subst (λ l. (j : ℕ) → j < 4 → lane both j ≡ pair (lane l (2 * j)) (lane l (2 * j + 1))) same pairs

    even_is : (j : ℕ) → j < 4 → lane (map (to_z w64) (lows 4 (map (of_z w64) both))) j ≡ lane x (2 * j)
    even_is j h = low_at 4 both j four h ∙ low_read (lane both j) (lane x (2 * j)) (lane x (2 * j + 1)) (i.fits (2 * j) (omega (arith, h))) (i.fits (2 * j + 1) (omega (arith, h))) (given j h)

    odd_is : (j : ℕ) → j < 4 → lane (map (to_z w64) (highs 4 (map (of_z w64) both))) j ≡ lane x (2 * j + 1)
    odd_is j h = high_at 4 both j four h ∙ high_read (lane both j) (lane x (2 * j)) (lane x (2 * j + 1)) (i.fits (2 * j) (omega (arith, h))) (i.fits (2 * j + 1) (omega (arith, h))) (given j h)

    even_fit : (j : ℕ) → j < 4 → SFits w32 (lane (map (to_z w64) (lows 4 (map (of_z w64) both))) j)
    even_fit j h = subst (λ z. SFits w32 z) (sym (even_is j h)) (i.fits (2 * j) (omega (arith, h)))

    odd_fit : (j : ℕ) → j < 4 → SFits w32 (lane (map (to_z w64) (highs 4 (map (of_z w64) both))) j)
    odd_fit j h = subst (λ z. SFits w32 z) (sym (odd_is j h)) (i.fits (2 * j + 1) (omega (arith, h)))

-- the odd lanes of two vectors in turns
abbrev merged : List ℤ → List ℤ → List ℤ
merged e o = at e o 1 ∷ at e o 9 ∷ at e o 3 ∷ at e o 11 ∷ at e o 5 ∷ at e o 13 ∷ at e o 7 ∷ at e o 15 ∷ []

module _ (e o : List ℤ) (eight_e : length e ≡ 8) (eight_o : length o ≡ 8)
    (small_e : (i : ℕ) → i < 4 → nat_abs (lane e (2 * i + 1)) ≤ 8380416) (small_o : (i : ℕ) → i < 4 → nat_abs (lane o (2 * i + 1)) ≤ 8380416) where
  first_at : (i : ℕ) → i < 4 → at e o (2 * i + 1) ≡ lane e (2 * i + 1)
  first_at i h =
      let s = small_e i h in
      ap (to_z w32) (get_or_append_left (map (of_z w32) e) (map (of_z w32) o) 0 (2 * i + 1) (omega (arith, h, eight_e, length-map e (of_z w32))) ∙ get_or-map (of_z w32) e (2 * i + 1) (pos 0) 0 (omega (arith, h, eight_e)))
      ∙ to_z-of_z w32 _ (fits_signed_from_abs w32 _ (omega (arith, s)))

  second_at : (i : ℕ) → i < 4 → at e o (8 + (2 * i + 1)) ≡ lane o (2 * i + 1)
  second_at i h =
      let s = small_o i h in
      let n = 2 * i + 1 in
      ap (λ m. at e o (m + n)) (sym (length-map e (of_z w32) ∙ eight_e)) ∙ ap (to_z w32) (get_or-append-add (map (of_z w32) e) (map (of_z w32) o) n 0 ∙ get_or-map (of_z w32) o n (pos 0) 0 (omega (arith, h, eight_o)))
      ∙ to_z-of_z w32 _ (fits_signed_from_abs w32 _ (omega (arith, s)))

  each : (P : ℕ → ℤ → Type 0) → ((i : ℕ) → i < 4 → P (2 * i) (lane e (2 * i + 1))) → ((i : ℕ) → i < 4 → P (2 * i + 1) (lane o (2 * i + 1)))
      → (j : ℕ) → j < 8 → P j (lane (merged e o) j)
  each P f g =
      let even : (i : ℕ) → i < 4 → P (2 * i) (at e o (2 * i + 1)) = λ i h. subst (P (2 * i)) (sym (first_at i h)) (f i h) in
      let odd : (i : ℕ) → i < 4 → P (2 * i + 1) (at e o (8 + (2 * i + 1))) = λ i h. subst (P (2 * i + 1)) (sym (second_at i h)) (g i h) in
      below_eight (λ j. P j (lane (merged e o) j)) (even 0 (lit< tt)) (odd 0 (lit< tt)) (even 1 (lit< tt)) (odd 1 (lit< tt)) (even 2 (lit< tt)) (odd 2 (lit< tt)) (even 3 (lit< tt)) (odd 3 (lit< tt))

  merged_small : (j : ℕ) → j < 8 → nat_abs (lane (merged e o) j) ≤ 8380416
  merged_small = each (λ j z. nat_abs z ≤ 8380416) small_e small_o

pub pairs-both-requires : goal.pairs-both-requires
pairs-both-requires c = stored_fit c.x.inside.0 c.x.invariant

pub wide_products-even-requires-clause-fits : goal.wide_products-even-requires-clause-fits
wide_products-even-requires-clause-fits c = even_fit c.x.inside.0 c.x.invariant c.pairs-both.result (search rules) c.pairs-both.ensures

pub wide_products-odd-requires-clause-fits : goal.wide_products-odd-requires-clause-fits
wide_products-odd-requires-clause-fits c = odd_fit c.x.inside.0 c.x.invariant c.pairs-both.result (search rules) c.pairs-both.ensures

pub invariant_of-result : goal.invariant_of-result
invariant_of-result c = record {
  eight = refl;
  fits = λ j h. let s = merged_small c.wide_products-even.result c.wide_products-odd.result (search rules) (search rules) c.wide_products-even.ensures.small c.wide_products-odd.ensures.small j h in fits_signed_from_abs w32 _ (omega (arith, s));
}

pub returns-clause-congruent : goal.returns-clause-congruent
returns-clause-congruent c =
    let x = c.x.inside.0 in
    let even = even_is x c.x.invariant c.pairs-both.result (search rules) c.pairs-both.ensures in
    let odd = odd_is x c.x.invariant c.pairs-both.result (search rules) c.pairs-both.ensures in
    let read_words : to_z w64 (of_z w64 c.args.words) ≡ c.args.words = to_z-of_z w64 c.args.words c.ranges.words in
    rw (sym c.x.view_is) (each c.wide_products-even.result c.wide_products-odd.result (search rules) (search rules) c.wide_products-even.ensures.small c.wide_products-odd.ensures.small
    (λ j z. IsCongruent (4294967296 * residue z) (residue (lane x j) * residue (int_wrap w32 c.args.words)))
    (λ i h. subst (λ z. IsCongruent (4294967296 * residue (lane c.wide_products-even.result (2 * i + 1))) (residue z * residue (int_wrap w32 c.args.words))) (even i h) (rw read_words at c.wide_products-even.ensures.congruent i h))
    (λ i h. subst (λ z. IsCongruent (4294967296 * residue (lane c.wide_products-odd.result (2 * i + 1))) (residue z * residue (int_wrap w32 c.args.words))) (odd i h) (rw read_words at c.wide_products-odd.ensures.congruent i h)))

pub returns-clause-small : goal.returns-clause-small
returns-clause-small c = merged_small c.wide_products-even.result c.wide_products-odd.result (search rules) (search rules) c.wide_products-even.ensures.small c.wide_products-odd.ensures.small
