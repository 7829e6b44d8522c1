-- Blocks and layers of butterflies, so far as a loop over them has come.
use Rattle.std.proofs.Common.{◌≡◌, ℕ, zero, suc, ◌<◌, ◌≤◌, ◌+◌, ◌*◌, ◌-◌, List, ◌++◌, ℤ, length, get_or, set, take, drop, get_or-set_same, get_or-set_other, arith, ap, ◌∙◌, ◌⊎◌, inl, inr}
use Rattle.std.specs.Prelude.{nat_abs}
use Rattle.std.proofs.lemmas.List.{get_or_default}
use Rattle.std.proofs.lemmas.Nat.{mul-le}
use native.Mathlib.Decide.{dec_lt}
use Rattle.fips204_base.specs.Residues.{residue}
use Rattle.fips204_base.specs.Lanes.{lane, lane_at}
use Rattle.fips204_base.specs.Network.{IsButterfly, IsInverseButterfly, IsBlock, AreBlocks}
use Rattle.fips204_base.proofs.Network.{IsLayer, IsInverseLayer}
use Rattle.std.proofs.lemmas.Int.{ints}
use Rattle.std.proofs.lemmas.Grind.{common_steps, elements}

-- ---- the halves of a block: the first n of its pairs are done
pub record Halves (Pair : ℤ → ℤ → ℤ → ℤ → Type 0) (start len n : ℕ) (before front back : ℕ → ℤ) : Type 0 where
  pub pairs : (k : ℕ) → k < n → Pair (before (start + k)) (before (start + k + len)) (front k) (back k)
  pub rest : (k : ℕ) → n ≤ k → k < len → (front k ≡ before (start + k)) × (back k ≡ before (start + k + len))

pub halves_none : {V : Type 0} (Pair : ℤ → ℤ → ℤ → ℤ → Type 0) (lanes : V → List ℤ) (j : ℕ) (d : V) (below front rest : List V) (start len : ℕ) →
    length below ≡ start → length front ≡ len →
    Halves Pair start len 0 (lane_at lanes j d (below ++ (front ++ rest))) (lane_at lanes j d front) (lane_at lanes j d (take len rest))
halves_none Pair lanes j d below front rest start len p q = grind (arith, ints, elements)

-- one pair more
pub halves_more : {V : Type 0} (Pair : ℤ → ℤ → ℤ → ℤ → Type 0) (lanes : V → List ℤ) (j : ℕ) (d : V) (before : ℕ → ℤ) (front back : List V) (start len n : ℕ) (a b x y : V) →
    n < len → length front ≡ len → length back ≡ len → a ≡ get_or front n a → b ≡ get_or back n b →
    Halves Pair start len n before (lane_at lanes j d front) (lane_at lanes j d back) → Pair (lane (lanes a) j) (lane (lanes b) j) (lane (lanes x) j) (lane (lanes y) j) →
    Halves Pair start len (n + 1) before (lane_at lanes j d (set front n x)) (lane_at lanes j d (set back n y))
halves_more {V} Pair lanes j d before front back start len n a b x y h p q e f done pair =
    let g = λ (v : V). lane (lanes v) j in
    let one : g a ≡ lane_at lanes j d front n = ap g (e ∙ get_or_default front n a d (omega arith)) in
    let two : g b ≡ lane_at lanes j d back n = ap g (f ∙ get_or_default back n b d (omega arith)) in
    grind (arith, ints, dec_lt, get_or-set_other, get_or-set_same)

pub halves_whole : {V : Type 0} (Pair : ℤ → ℤ → ℤ → ℤ → Type 0) (lanes : V → List ℤ) (j : ℕ) (d : V) (below front rest x y : List V) (start len : ℕ) →
    length below ≡ start → length front ≡ len → len ≤ length rest → length x ≡ len → length y ≡ len →
    Halves Pair start len len (lane_at lanes j d (below ++ (front ++ rest))) (lane_at lanes j d x) (lane_at lanes j d y) →
    IsBlock Pair start len (lane_at lanes j d (below ++ (front ++ rest))) (lane_at lanes j d (below ++ (x ++ (y ++ drop len rest))))
halves_whole Pair lanes j d below front rest x y start len p q r s t done = grind (arith, ints, elements)

-- ---- a layer: its first blocks are done
pub record SoFar (Pair : ℕ → ℤ → ℤ → ℤ → ℤ → Type 0) (len done : ℕ) (before after : ℕ → ℤ) : Type 0 where
  pub pairs : (b k : ℕ) → b < done → k < len → Pair b (before (2 * len * b + k)) (before (2 * len * b + k + len)) (after (2 * len * b + k)) (after (2 * len * b + k + len))
  pub rest : (p : ℕ) → 2 * len * done ≤ p → after p ≡ before p

pub layer_none : (Pair : ℕ → ℤ → ℤ → ℤ → ℤ → Type 0) (len : ℕ) (before : ℕ → ℤ) → SoFar Pair len 0 before before
layer_none Pair len before = grind (arith, ints, common_steps)

-- block c ends where block b begins, or before
blocks_apart : (len b c : ℕ) → c < b → 2 * len * c + 2 * len ≤ 2 * len * b
blocks_apart len b c h = let e = mul-le (2 * len) (c + 1) (2 * len) b (omega arith) (omega arith) in omega (arith, e)

pub block_fits : (count len b : ℕ) → count * len ≡ 128 → b < count → 2 * len * b + 2 * len ≤ 256
block_fits count len b e h = let f = blocks_apart len count b h in omega (arith, f, e)

pub count_below : (count len : ℕ) → count * len ≡ 128 → count ≤ 128
count_below count zero e = absurd (omega (arith, e))
count_below count (suc len) e = omega (arith, e)

pub factor_positive : (a b : ℕ) → a * b ≡ 128 → 1 ≤ a
factor_positive zero b e = absurd (omega (arith, e))
factor_positive (suc a) b e = omega arith

-- the steps of all blocks
pub layer_products : (count len b old new : ℕ) → b ≡ count → count * len ≡ 128 → new ≡ old + len * b → new ≡ old + 128
layer_products count len b old new e f h = h ∙ rw e (omega (arith, f))

pub layer_sums : (count len b old new : ℕ) → b ≡ count → count * len ≡ 128 → new ≡ old + 2 * len * b → new ≡ old + 256
layer_sums count len b old new e f h = h ∙ rw e (omega (arith, f))

pub layer_more : (Pair : ℕ → ℤ → ℤ → ℤ → ℤ → Type 0) (len b start : ℕ) (first before after : ℕ → ℤ) → start ≡ 2 * len * b → IsBlock (Pair b) start len before after →
    SoFar Pair len b first before → SoFar Pair len (b + 1) first after
layer_more Pair len b start first before after e block done = grind (arith, ints, common_steps, dec_lt, blocks_apart)

pub layer_whole : (Pair : ℕ → ℤ → ℤ → ℤ → ℤ → Type 0) (count len : ℕ) (before after : ℕ → ℤ) → SoFar Pair len count before after → AreBlocks Pair count len before after
layer_whole Pair count len before after done b k h q = done.pairs b k h q

-- ---- layers in residues
pub layer_of_blocks : (count len : ℕ) (before after : ℕ → ℤ) → AreBlocks (λ b. IsButterfly (count + b)) count len before after → IsLayer count len (λ p. residue (before p)) (λ p. residue (after p))
layer_of_blocks count len before after blocks b j h q = let pair = blocks b j h q in (pair.sum, pair.difference)

pub inverse_layer_of_blocks : (count len : ℕ) (before after : ℕ → ℤ) → AreBlocks (λ b. IsInverseButterfly (2 * count - 1 - b)) count len before after → IsInverseLayer count len (λ p. residue (before p)) (λ p. residue (after p))
inverse_layer_of_blocks count len before after blocks b j h q = let pair = blocks b j h q in (pair.sum, pair.difference)

-- ---- sizes
-- each place of the first blocks is in the first or the second half of one of them
pub record Place (len done p : ℕ) : Type 0 where
  pub block : ℕ
  pub within : block < done
  pub offset : ℕ
  pub inside : offset < len
  pub either : (p ≡ 2 * len * block + offset) ⊎ (p ≡ 2 * len * block + offset + len)

place_found : (len done p : ℕ) → p < 2 * len * done → Place len done p
place_found len zero p h = absurd (omega arith)
place_found len (suc done) p h = elim (dec_lt p (2 * len * done)) [
  | yes q ↦ (let r = place_found len done p q in record { block = r.block; within = omega (arith, r.within); offset = r.offset; inside = r.inside; either = r.either })
  | no q ↦ elim (dec_lt (p - 2 * len * done) len) [
    | yes r ↦ record { block = done; within = omega arith; offset = p - 2 * len * done; inside = r; either = inl (omega arith) }
    | no r ↦ record { block = done; within = omega arith; offset = p - 2 * len * done - len; inside = omega arith; either = inr (omega arith) }
  ]
]

-- what holds of both results of each pair holds at every place
everywhere : (P : ℤ → Type 0) (Pair : ℕ → ℤ → ℤ → ℤ → ℤ → Type 0) (count len : ℕ) (before after : ℕ → ℤ) → count * len ≡ 128 → AreBlocks Pair count len before after →
    ((b a c : ℕ) (x y : ℤ) → a < 256 → c < 256 → Pair b (before a) (before c) x y → P x × P y) →
    (p : ℕ) → p < 256 → P (after p)
everywhere P Pair count len before after e blocks h p q =
    let found = place_found len count p (omega (arith, e)) in
    let fits = block_fits count len found.block e found.within in
    let low = 2 * len * found.block + found.offset in
    let both = h found.block low (low + len) (after low) (after (low + len)) (omega (arith, found.inside)) (omega (arith, found.inside)) (blocks found.block found.offset found.within found.inside) in
    elim found.either [
      | inl f ↦ rw f both.0
      | inr f ↦ rw f both.1
    ]

pub layer_sizes : (count len bound : ℕ) (before after : ℕ → ℤ) → count * len ≡ 128 → AreBlocks (λ b. IsButterfly (count + b)) count len before after →
    ((p : ℕ) → p < 256 → nat_abs (before p) ≤ bound) → (p : ℕ) → p < 256 → nat_abs (after p) ≤ bound + 8380416
layer_sizes count len bound before after e blocks h =
    everywhere (λ x. nat_abs x ≤ bound + 8380416) (λ b. IsButterfly (count + b)) count len before after e blocks
    (λ b a c x y p q pair. (omega (arith, pair.sum_small, h a p), omega (arith, pair.difference_small, h a p)))

pub inverse_layer_sizes : (count len bound : ℕ) (before after : ℕ → ℤ) → count * len ≡ 128 → AreBlocks (λ b. IsInverseButterfly (2 * count - 1 - b)) count len before after →
    8380416 ≤ bound → ((p : ℕ) → p < 256 → nat_abs (before p) ≤ bound) → (p : ℕ) → p < 256 → nat_abs (after p) ≤ 2 * bound
inverse_layer_sizes count len bound before after e blocks least h =
    everywhere (λ x. nat_abs x ≤ 2 * bound) (λ b. IsInverseButterfly (2 * count - 1 - b)) count len before after e blocks
    (λ b a c x y p q pair. (omega (arith, pair.sum_small, h a p, h c q), omega (arith, pair.difference_small)))

-- ---- one value of a row is changed: what the values before it have, and it, all have then; and the others stay
pub one_changed : {V : Type 0} (P : ℕ → ℤ → Type 0) (lanes : V → List ℤ) (j n : ℕ) (d x : V) (w : List V) → n < length w →
    ((p : ℕ) → p < n → P p (lane_at lanes j d w p)) → P n (lane (lanes x) j) → (p : ℕ) → p < n + 1 → P p (lane_at lanes j d (set w n x) p)
one_changed P lanes j n d x w inside before here p h = grind (arith, ints, common_steps, dec_lt, get_or-set_other, get_or-set_same)

pub others_stay : {V : Type 0} (lanes : V → List ℤ) (j n : ℕ) (d x : V) (w : List V) (p : ℕ) → n + 1 ≤ p → lane_at lanes j d (set w n x) p ≡ lane_at lanes j d w p
others_stay lanes j n d x w p h = ap (λ v. lane (lanes v) j) (get_or-set_other w n p x d (λ e. omega (arith, e, h)))
