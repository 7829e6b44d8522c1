-- Worked values of ranges, of relations between vectors, and of rows of transforms and of lanes: each holds at its edges, and not past them.
use Rattle.std.proofs.Common.{◌≡◌, ◌+◌, ◌*◌, ◌%◌, ◌^◌, ◌<◌, ◌≤◌, ◌≤ℤ◌, ◌-ℤ◌, ℕ, ℤ, List, [], ◌∷◌, ◌++◌, pos, negsuc, length, inl, inr, refl, arith, sym, subst}
use Rattle.std.specs.Prelude.{nat_abs, replicate, FitsSigned}
use Rattle.std.specs.Int.{w32}
use Rattle.std.specs.List.{All}
use Rattle.std.proofs.lemmas.Int.{ints}
use Rattle.std.proofs.lemmas.List.{get_or-replicate, length-replicate}
use Rattle.std.proofs.lemmas.List.Elements.{All-replicate}
use Rattle.fips204_base.specs.declared.types.R.{R}
use Rattle.fips204_base.specs.declared.types.T.{T}
use Rattle.fips204_base.specs.Bounds.{IsEta, ValuesWithin, PolynomialWithin, VectorWithin, IsResidueVector, TransformsWithin, vector_residues, row_value, AreRowProducts, IsGamma1, EachLane, PolynomialInRange, Bounds, VectorInRange}
use Rattle.fips204_base.specs.Lanes.{lane_at, residues, LanesWithin, RowsWithin, IsTransform, IsInverse, EachRow}
use Rattle.fips204_base.specs.Network.{AreEight}
use Rattle.fips204_base.specs.PlainTransforms.{AreSameModQ}
use Rattle.fips204_base.specs.Residues.{sum_below, IsCongruent}
use Rattle.fips204_base.specs.Rounding.{IsGamma2}
use Rattle.fips204_base.specs.Transforms.{transform, bit_reversed}
use Rattle.fips204_base.specs.Vectors.{MatrixWithin, IsVector}
use Rattle.fips204_base.proofs.Residues.{sum_zero}
use Rattle.fips204_base.proofs.PlainTransforms.{inverse_of_zeros}
use Rattle.fips204_base.proofs.Vectors.{get_or-padded}

-- ---- Numbers of the parameter sets

etas : IsEta (pos 2) × IsEta (pos 4)
etas = (inl refl, inr refl)

other_etas : (IsEta (pos 3) → ⊥) × (IsEta (negsuc 1) → ⊥)
other_etas = (λ e. omega (arith, ints, e), λ e. omega (arith, ints, e))

gamma1s : IsGamma1 (pos 131072) × IsGamma1 (pos 524288)
gamma1s = (inl refl, inr refl)

gamma2s : IsGamma2 (pos 95232) × IsGamma2 (pos 261888)
gamma2s = (inl refl, inr refl)

-- bounds of packing are from 0, and from 1, to 2^20 - 1
bounds : Bounds (pos 0) (pos 1) × Bounds (pos 1048575) (pos 1048575)
bounds = ((omega arith, omega arith, omega arith, omega arith), (omega arith, omega arith, omega arith, omega arith))

past_bounds : (Bounds (negsuc 0) (pos 1) → ⊥) × (Bounds (pos 1048576) (pos 1) → ⊥) × (Bounds (pos 0) (pos 0) → ⊥) × (Bounds (pos 0) (pos 1048576) → ⊥)
past_bounds = (λ b. omega (arith, ints, b.0), λ b. omega (arith, ints, b.1), λ b. omega (arith, ints, b.2), λ b. omega (arith, ints, b.3))

-- 2 q + 3 is 3 modulo q
congruent : IsCongruent 16760837 3 × IsCongruent 3 16760837 × (IsCongruent 1 2 → ⊥)
congruent = (record { same = refl }, record { same = refl }, λ c. omega (arith, c.same))

-- ---- Values, polynomials and vectors

values : ValuesWithin 2 (replicate 3 (pos 2)) × ValuesWithin 2 (replicate 3 (negsuc 1)) × (ValuesWithin 2 (pos 0 ∷ pos 3 ∷ []) → ⊥)
values = (All-replicate (λ x. nat_abs x ≤ 2) 3 (pos 2) (omega arith), All-replicate (λ x. nat_abs x ≤ 2) 3 (negsuc 1) (omega arith), λ within. let second : 3 ≤ 2 = within 1 (pos 0) (omega arith) in omega (arith, second))

transforms : TransformsWithin 2 (replicate 2 record { 0 = replicate 3 (pos 2) }) × (TransformsWithin 2 (record { 0 = [] } ∷ record { 0 = pos 0 ∷ pos 3 ∷ [] } ∷ []) → ⊥)
transforms = (All-replicate (λ (t : T). ValuesWithin 2 t.0) 2 record { 0 = replicate 3 (pos 2) } values.0, λ within. values.2 (within 1 record { 0 = [] } (omega arith)))

matrices : MatrixWithin 2 (replicate 2 (replicate 2 record { 0 = replicate 3 (pos 2) })) × (MatrixWithin 2 (replicate 2 (replicate 2 record { 0 = pos 0 ∷ pos 3 ∷ [] })) → ⊥)
matrices = (All-replicate (TransformsWithin 2) 2 (replicate 2 record { 0 = replicate 3 (pos 2) }) transforms.0, λ within. values.2 (within 1 [] (omega arith) 1 record { 0 = [] } (omega arith)))

in_range : PolynomialInRange (negsuc 1) (pos 3) (replicate 3 (negsuc 1)) × PolynomialInRange (negsuc 1) (pos 3) (replicate 3 (pos 3))
in_range = (All-replicate (λ x. (negsuc 1 ≤ℤ x) × (x ≤ℤ pos 3)) 3 (negsuc 1) (omega arith, omega arith), All-replicate (λ x. (negsuc 1 ≤ℤ x) × (x ≤ℤ pos 3)) 3 (pos 3) (omega arith, omega arith))

out_of_range : (PolynomialInRange (negsuc 1) (pos 3) (pos 0 ∷ negsuc 2 ∷ []) → ⊥) × (PolynomialInRange (negsuc 1) (pos 3) (pos 0 ∷ pos 4 ∷ []) → ⊥)
out_of_range = (λ all. let low : negsuc 1 ≤ℤ negsuc 2 = (all 1 (pos 0) (omega arith)).0 in omega (arith, ints, low), λ all. let high : pos 4 ≤ℤ pos 3 = (all 1 (pos 0) (omega arith)).1 in omega (arith, ints, high))

vectors_in_range : VectorInRange (negsuc 1) (pos 3) (replicate 2 record { 0 = replicate 3 (pos 3) }) × (VectorInRange (negsuc 1) (pos 3) (replicate 2 record { 0 = pos 0 ∷ pos 4 ∷ [] }) → ⊥)
vectors_in_range = (All-replicate (λ (w : R). PolynomialInRange (negsuc 1) (pos 3) w.0) 2 record { 0 = replicate 3 (pos 3) } in_range.1, λ all. out_of_range.1 (all 1 record { 0 = [] } (omega arith)))

-- a coefficient at place 256 doesn't count, and one at place 255 does
polynomials : PolynomialWithin 1 (replicate 256 (negsuc 0) ++ pos 2 ∷ []) × (PolynomialWithin 1 (replicate 255 (pos 0) ++ pos 2 ∷ []) → ⊥)
polynomials = (λ n h. subst (λ x. nat_abs x ≤ 1) (sym (get_or-padded (negsuc 0) (pos 2) (pos 0) n h)) (omega arith), λ within. let last : 2 ≤ 1 = within 255 (omega arith) in omega (arith, last))

-- nor does a polynomial at row 1 of a vector of one
vectors : VectorWithin 1 1 (record { 0 = replicate 256 (negsuc 0) ++ pos 2 ∷ [] } ∷ record { 0 = pos 2 ∷ [] } ∷ [])
    × (VectorWithin 1 1 (record { 0 = replicate 255 (pos 0) ++ pos 2 ∷ [] } ∷ []) → ⊥)
vectors = (λ r n h l. let first : r ≡ 0 = omega (arith, h) in rw first (polynomials.0 n l), λ within. polynomials.1 (λ n l. within 0 n (omega arith) l))

-- so it is with residues, from 0 to q - 1
residues_at_ends : IsResidueVector 1 (record { 0 = replicate 256 (pos 8380416) ++ negsuc 0 ∷ [] } ∷ record { 0 = negsuc 0 ∷ [] } ∷ [])
    × IsResidueVector 1 (record { 0 = replicate 256 (pos 0) ++ negsuc 0 ∷ [] } ∷ [])
residues_at_ends = (
  λ r n h l. let first : r ≡ 0 = omega (arith, h) in rw (first, get_or-padded (pos 8380416) (negsuc 0) (pos 0) n l) (omega arith, omega arith),
  λ r n h l. let first : r ≡ 0 = omega (arith, h) in rw (first, get_or-padded (pos 0) (negsuc 0) (pos 0) n l) (omega arith, omega arith),
)

past_residues : (IsResidueVector 1 (record { 0 = replicate 255 (pos 0) ++ negsuc 0 ∷ [] } ∷ []) → ⊥) × (IsResidueVector 1 (record { 0 = pos 0 ∷ pos 8380417 ∷ [] } ∷ []) → ⊥)
past_residues = (
  λ all. let low : pos 0 ≤ℤ negsuc 0 = (all 0 255 (omega arith) (omega arith)).0 in omega (arith, ints, low),
  λ all. let high : pos 8380417 ≤ℤ pos 8380416 = (all 0 1 (omega arith) (omega arith)).1 in omega (arith, ints, high),
)

-- q - 1 and -1 are the same modulo q
same_modulo_q : AreSameModQ 1 (record { 0 = replicate 256 (pos 8380416) } ∷ []) (record { 0 = replicate 256 (negsuc 0) ++ pos 1 ∷ [] } ∷ record { 0 = pos 1 ∷ [] } ∷ [])
    × (AreSameModQ 1 [] (record { 0 = replicate 255 (pos 0) ++ pos 1 ∷ [] } ∷ []) → ⊥)
same_modulo_q = (
  λ r n h l. let first : r ≡ 0 = omega (arith, h) in rw (first, get_or-padded (negsuc 0) (pos 1) (pos 0) n l, get_or-replicate 256 n (pos 8380416) (pos 0) l) refl,
  λ same. let last : 0 ≡ 1 = same 0 255 (omega arith) (omega arith) in omega (arith, last),
)

-- a vector of equal coefficients
pub constant_vector : (count a b : ℕ) (x : ℤ) → (pos 0 -ℤ pos a) ≤ℤ x → x ≤ℤ pos b → IsVector count a b (replicate count record { 0 = replicate 256 x })
constant_vector count a b x low high = record {
  rows = length-replicate count record { 0 = replicate 256 x };
  places = All-replicate (λ (w : R). length w.0 ≡ 256) count record { 0 = replicate 256 x } (length-replicate 256 x);
  range = All-replicate (λ (w : R). All (λ y. ((pos 0 -ℤ pos a) ≤ℤ y) × (y ≤ℤ pos b)) w.0) count record { 0 = replicate 256 x } (All-replicate (λ y. ((pos 0 -ℤ pos a) ≤ℤ y) × (y ≤ℤ pos b)) 256 x (low, high));
}

vectors_of_ends : IsVector 1 2 3 (record { 0 = replicate 256 (negsuc 1) } ∷ []) × IsVector 1 2 3 (record { 0 = replicate 256 (pos 3) } ∷ [])
vectors_of_ends = (constant_vector 1 2 3 (negsuc 1) (omega arith) (omega arith), constant_vector 1 2 3 (pos 3) (omega arith) (omega arith))

-- too few polynomials, too few coefficients, and one out of range
no_vectors : (IsVector 2 2 3 (record { 0 = replicate 256 (pos 0) } ∷ []) → ⊥) × (IsVector 1 2 3 (record { 0 = pos 0 ∷ [] } ∷ []) → ⊥)
    × (IsVector 1 2 3 (record { 0 = replicate 256 (negsuc 2) } ∷ []) → ⊥) × (IsVector 1 2 3 (record { 0 = replicate 256 (pos 4) } ∷ []) → ⊥)
no_vectors = (
  λ v. omega (arith, v.rows),
  λ v. let size : 1 ≡ 256 = v.places 0 record { 0 = [] } (omega arith) in omega (arith, size),
  λ v. let low : negsuc 1 ≤ℤ negsuc 2 = (v.range 0 record { 0 = [] } (omega arith) 0 (pos 0) (omega arith)).0 in omega (arith, ints, low),
  λ v. let high : pos 4 ≤ℤ pos 3 = (v.range 0 record { 0 = [] } (omega arith) 0 (pos 0) (omega arith)).1 in omega (arith, ints, high),
)

-- ---- Rows of transforms

-- -1 is the residue q - 1
residue_by_row : vector_residues (record { 0 = [] } ∷ record { 0 = pos 5 ∷ negsuc 0 ∷ [] } ∷ []) 1 1 ≡ 8380416
residue_by_row = refl

-- 3 times -1 and 5 times 2
sum_of_row : row_value 2 (record { 0 = pos 0 ∷ pos 3 ∷ [] } ∷ record { 0 = pos 0 ∷ pos 5 ∷ [] } ∷ []) (record { 0 = pos 0 ∷ negsuc 0 ∷ [] } ∷ record { 0 = pos 7 ∷ pos 2 ∷ [] } ∷ []) 1 ≡ 7
unfolding sum_below
sum_of_row = refl

-- 2 times -1 at each place
row_products : AreRowProducts 1 1 ((record { 0 = replicate 256 (pos 2) } ∷ []) ∷ []) (record { 0 = replicate 256 (negsuc 0) } ∷ []) (record { 0 = replicate 256 (negsuc 1) ++ pos 5 ∷ [] } ∷ record { 0 = pos 7 ∷ [] } ∷ [])
    × (AreRowProducts 1 0 [] [] (record { 0 = replicate 255 (pos 0) ++ pos 1 ∷ [] } ∷ []) → ⊥)
unfolding sum_below
row_products = (
  λ i j h l. let first : i ≡ 0 = omega (arith, h) in
      rw (first, get_or-padded (negsuc 1) (pos 5) (pos 0) j l, get_or-replicate 256 j (pos 2) (pos 0) l, get_or-replicate 256 j (negsuc 0) (pos 0) l) refl,
  λ all. let last : 1 ≡ 0 = all 0 255 (omega arith) (omega arith) in omega (arith, last),
)

-- ---- Lanes

lanes_by_value : residues (λ xs. xs) 1 [] ((pos 5 ∷ []) ∷ (pos 6 ∷ negsuc 6 ∷ []) ∷ []) 1 ≡ 8380410
lanes_by_value = refl

eight : AreEight (replicate 8 (pos 2147483647)) × AreEight (replicate 8 (negsuc 2147483647))
eight =
    let highest : FitsSigned w32 (pos 2147483647) = record { sfits = omega arith } in
    let lowest : FitsSigned w32 (negsuc 2147483647) = record { sfits = omega arith } in (
      record { eight = refl; fits = λ j h. subst (FitsSigned w32) (sym (get_or-replicate 8 j (pos 2147483647) (pos 0) h)) highest },
      record { eight = refl; fits = λ j h. subst (FitsSigned w32) (sym (get_or-replicate 8 j (negsuc 2147483647) (pos 0) h)) lowest },
    )

not_eight : (AreEight (replicate 7 (pos 0)) → ⊥) × (AreEight (replicate 7 (pos 0) ++ pos 2147483648 ∷ []) → ⊥)
not_eight = (λ e. omega (arith, e.eight), λ e. let last : FitsSigned w32 (pos 2147483648) = e.fits 7 (omega arith) in omega (arith, last.sfits))

-- lane 0 alone counts, and goes from the one to the other
each_lane : EachLane (λ x y. x ≤ℤ y) 1 (pos 1 ∷ pos 3 ∷ []) (pos 2 ∷ pos 2 ∷ [])
each_lane j h = let first : j ≡ 0 = omega (arith, h) in rw first (omega arith)

-- rows of 256 values of a lane, and of one more; other lanes don't count
lanes_within : LanesWithin (λ xs. xs) 1 2 (replicate 256 (negsuc 1 ∷ pos 9 ∷ []) ++ (pos 3 ∷ []) ∷ []) × (LanesWithin (λ xs. xs) 1 2 (replicate 255 [] ++ (pos 3 ∷ []) ∷ []) → ⊥)
lanes_within = (
  λ i j d h l. let first : j ≡ 0 = omega (arith, l) in rw (first, get_or-padded (negsuc 1 ∷ pos 9 ∷ []) (pos 3 ∷ []) d i h) (omega arith),
  λ all. let last : 3 ≤ 2 = all 255 0 [] (omega arith) (omega arith) in omega (arith, last),
)

rows_within : RowsWithin (λ xs. xs) 1 1 2 ((replicate 256 (negsuc 1 ∷ pos 9 ∷ []) ++ (pos 3 ∷ []) ∷ []) ∷ ((pos 9 ∷ []) ∷ []) ∷ [])
rows_within row d h = let first : row ≡ 0 = omega (arith, h) in rw first lanes_within.0

-- the transform of zeros, and its inverse, are zeros
transform_of_zeros : (w : ℕ → ℕ) (i : ℕ) → ((j : ℕ) → j < 256 → w j ≡ 0) → transform w i ≡ 0
unfolding transform
transform_of_zeros w i zeros = (sum_zero 256 (λ j. w j * (1753 ^ (2 * bit_reversed i + 1) % 8380417) ^ j) (λ j h. record { same = rw (zeros j h) (omega arith) })).same

zero_lane : (d : List ℤ) (i : ℕ) → i < 256 → residues (λ xs. xs) 0 d (replicate 256 (pos 8380417 ∷ pos 1 ∷ [])) i ≡ 0
zero_lane d i h = rw (get_or-replicate 256 i (pos 8380417 ∷ pos 1 ∷ []) d h) refl

zero_lane_padded : (d : List ℤ) (i : ℕ) → i < 256 → lane_at (λ xs. xs) 0 d (replicate 256 (pos 0 ∷ []) ++ (pos 1 ∷ []) ∷ []) i ≡ pos 0
zero_lane_padded d i h = rw (get_or-padded (pos 0 ∷ []) (pos 1 ∷ []) d i h) refl

transformed : IsTransform (λ xs. xs) 1 (replicate 256 (pos 8380417 ∷ pos 1 ∷ [])) (replicate 256 (pos 0 ∷ []) ++ (pos 1 ∷ []) ∷ [])
    × (IsTransform (λ xs. xs) 1 (replicate 256 (pos 8380417 ∷ pos 1 ∷ [])) (replicate 255 (pos 0 ∷ []) ++ (pos 1 ∷ []) ∷ []) → ⊥)
transformed = (
  λ i j d h l. let first : j ≡ 0 = omega (arith, l) in rw (first, zero_lane_padded d i h, transform_of_zeros (residues (λ xs. xs) 0 d (replicate 256 (pos 8380417 ∷ pos 1 ∷ []))) i (zero_lane d)) record { same = refl },
  λ all. let last = (all 255 0 [] (omega arith) (omega arith)).same in omega (arith, last, transform_of_zeros (residues (λ xs. xs) 0 [] (replicate 256 (pos 8380417 ∷ pos 1 ∷ []))) 255 (zero_lane [])),
)

rows_transformed : EachRow (IsTransform (λ xs. xs) 1) 1 (replicate 256 (pos 8380417 ∷ pos 1 ∷ []) ∷ []) ((replicate 256 (pos 0 ∷ []) ++ (pos 1 ∷ []) ∷ []) ∷ replicate 256 (pos 1 ∷ []) ∷ [])
rows_transformed row d h = let first : row ≡ 0 = omega (arith, h) in rw first transformed.0

-- the transform of 1 is 1 at each place, but not the other way round
not_transformed : EachRow (IsTransform (λ xs. xs) 1) 1 (replicate 256 (pos 1 ∷ []) ∷ []) (((pos 1 ∷ []) ∷ replicate 255 (pos 0 ∷ [])) ∷ []) → ⊥
unfolding transform bit_reversed sum_below
not_transformed all = omega (arith, (all 0 [] (omega arith) 0 0 [] (omega arith) (omega arith)).same)

inverted : IsInverse (λ xs. xs) 1 (replicate 256 (pos 8380417 ∷ pos 1 ∷ [])) (replicate 256 (pos 0 ∷ []) ++ (pos 1 ∷ []) ∷ [])
    × (IsInverse (λ xs. xs) 1 (replicate 256 (pos 8380417 ∷ pos 1 ∷ [])) (replicate 255 (pos 0 ∷ []) ++ (pos 1 ∷ []) ∷ []) → ⊥)
inverted = (
  λ i j d h l. let first : j ≡ 0 = omega (arith, l) in rw (first, zero_lane_padded d i h, inverse_of_zeros (residues (λ xs. xs) 0 d (replicate 256 (pos 8380417 ∷ pos 1 ∷ []))) i (zero_lane d)) refl,
  λ all. let last = all 255 0 [] (omega arith) (omega arith) in omega (arith, ints, last, inverse_of_zeros (residues (λ xs. xs) 0 [] (replicate 256 (pos 8380417 ∷ pos 1 ∷ []))) 255 (zero_lane [])),
)

rows_inverted : EachRow (IsInverse (λ xs. xs) 1) 1 (replicate 256 (pos 8380417 ∷ pos 1 ∷ []) ∷ []) ((replicate 256 (pos 0 ∷ []) ++ (pos 1 ∷ []) ∷ []) ∷ replicate 256 (pos 1 ∷ []) ∷ [])
rows_inverted row d h = let first : row ≡ 0 = omega (arith, h) in rw first inverted.0
