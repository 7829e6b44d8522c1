-- Butterflies, blocks of them, and lanes by place: cited by no public clause of `fips204`; nobody has to believe it.
use Rattle.std.specs.Prelude.{◌≡◌, ℕ, ◌+◌, ◌*◌, ◌<◌, ◌≤◌, ℤ, nat_abs, List, length, FitsSigned}
use Rattle.std.specs.Int.{w32}
use Rattle.fips204_base.specs.Lanes.{lane, lane_at}
use Rattle.fips204_base.specs.Packing.{width}
use Rattle.fips204_base.specs.Residues.{residue, IsCongruent}
use Rattle.fips204_base.specs.Transforms.{zeta_at}

-- one butterfly at m makes a + zeta b and a - zeta b of a and b
pub record IsButterfly (m : ℕ) (a b x y : ℤ) : Type 0 where
  pub sum : IsCongruent (residue x) (residue a + zeta_at m * residue b)
  pub difference : IsCongruent (residue y) (residue a + 8380416 * (zeta_at m * residue b))
  pub sum_small : nat_abs x ≤ nat_abs a + 8380416
  pub difference_small : nat_abs y ≤ nat_abs a + 8380416

-- one butterfly backwards at m makes a + b and -zeta (a - b) of a and b
pub record IsInverseButterfly (m : ℕ) (a b x y : ℤ) : Type 0 where
  pub sum : IsCongruent (residue x) (residue a + residue b)
  pub difference : IsCongruent (residue y) (8380416 * (zeta_at m * (residue a + 8380416 * residue b)))
  pub sum_small : nat_abs x ≤ nat_abs a + nat_abs b
  pub difference_small : nat_abs y ≤ 8380416

-- the 2 * len values from start on are paired len apart, and each other value stays
pub record IsBlock (Pair : ℤ → ℤ → ℤ → ℤ → Type 0) (start len : ℕ) (before after : ℕ → ℤ) : Type 0 where
  pub pairs : (k : ℕ) → k < len → Pair (before (start + k)) (before (start + k + len)) (after (start + k)) (after (start + k + len))
  pub below : (p : ℕ) → p < start → after p ≡ before p
  pub above : (p : ℕ) → start + 2 * len ≤ p → after p ≡ before p

-- count blocks of 2 * len values, each with pairs of its own
abbrev pub AreBlocks : (ℕ → ℤ → ℤ → ℤ → ℤ → Type 0) → ℕ → ℕ → (ℕ → ℤ) → (ℕ → ℤ) → Type 0
AreBlocks Pair count len before after = (b k : ℕ) → b < count → k < len →
    Pair b (before (2 * len * b + k)) (before (2 * len * b + k + len)) (after (2 * len * b + k)) (after (2 * len * b + k + len))

-- eight lanes, each a number of 32 bits
pub record AreEight (xs : List ℤ) : Type 0 where
  pub eight : length xs ≡ 8
  pub fits : (j : ℕ) → j < 8 → FitsSigned w32 (lane xs j)

-- lane by lane, x and y are a pair that is made of a and b
abbrev pub EachPair : {V : Type 0} → (ℤ → ℤ → ℤ → ℤ → Type 0) → (V → List ℤ) → ℕ → V → V → V → V → Type 0
EachPair Pair lanes width a b x y = (j : ℕ) → j < width → Pair (lane (lanes a) j) (lane (lanes b) j) (lane (lanes x) j) (lane (lanes y) j)

-- every lane of the values of a row from place start on has an absolute value of at most m
abbrev pub LanesWithinFrom : {V : Type 0} → ℕ → (V → List ℤ) → ℕ → ℕ → List V → Type 0
LanesWithinFrom {V} start lanes width m w = (p j : ℕ) (d : V) → start ≤ p → p < 256 → j < width → nat_abs (lane_at lanes j d w p) ≤ m

-- lane by lane, a row is changed by place
abbrev pub EachLaneOfRow : {V : Type 0} → ((ℕ → ℤ) → (ℕ → ℤ) → Type 0) → (V → List ℤ) → ℕ → List V → List V → Type 0
EachLaneOfRow {V} Changed lanes width before after = (j : ℕ) (d : V) → j < width → Changed (lane_at lanes j d before) (lane_at lanes j d after)
