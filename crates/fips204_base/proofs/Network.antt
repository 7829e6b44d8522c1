-- The network of butterflies is the transform forwards, and backwards the inverse transform.
use Rattle.std.proofs.Common.{Bool, true, eqb, ◌/◌, ◌-◌, ◌≡◌, ℕ, ◌<◌, ◌+◌, ◌*◌, ◌^◌, ◌%◌, arith, sym, refl, subst, ◌∙◌, add-zero}
use Rattle.std.proofs.lemmas.Nat.{pow-add}
use Rattle.std.proofs.Math.Nat.{pow-zero}
use Rattle.std.proofs.lemmas.Bool.{eqb-true}
use native.Mathlib.Decide.{dec_lt}
use Rattle.fips204_base.specs.Residues.{sum_below, IsCongruent}
use Rattle.fips204_base.specs.Transforms.{zeta_at, transform, inverse_transform}
use Rattle.fips204_base.proofs.Residues.{congruent_refl, congruent_of, congruent_sym, congruent_trans, congruent_mod, congruent_add, congruent_mul, sum_same, sum_equal, sum_add, sum_below-plus, sum_below-one, sum_below-times}
use Rattle.fips204_base.proofs.Roots.{root, inverse_root, first_half, second_half, both, both_first, both_second, all_below, at_index, inverse_first_half, inverse_second_half}
use Rattle.std.proofs.lemmas.Int.{ints}
use Rattle.std.proofs.lemmas.Grind.{common_steps}

-- a layer in residues: count blocks of 2 * len coefficients; block b multiplies by zeta_at (count + b)
abbrev pub IsLayer : ℕ → ℕ → (ℕ → ℕ) → (ℕ → ℕ) → Type 0
IsLayer count len before after = (b j : ℕ) → b < count → j < len →
    IsCongruent (after (2 * len * b + j)) (before (2 * len * b + j) + zeta_at (count + b) * before (2 * len * b + j + len))
    × IsCongruent (after (2 * len * b + j + len)) (before (2 * len * b + j) + 8380416 * (zeta_at (count + b) * before (2 * len * b + j + len)))

-- the same backwards: block b multiplies the differences by minus zeta_at (2 * count - 1 - b)
abbrev pub IsInverseLayer : ℕ → ℕ → (ℕ → ℕ) → (ℕ → ℕ) → Type 0
IsInverseLayer count len before after = (b j : ℕ) → b < count → j < len →
    IsCongruent (after (2 * len * b + j)) (before (2 * len * b + j) + before (2 * len * b + j + len))
    × IsCongruent (after (2 * len * b + j + len)) (8380416 * (zeta_at (2 * count - 1 - b) * (before (2 * len * b + j) + 8380416 * before (2 * len * b + j + len))))

-- The network forwards is the transform.

-- the value at x, where x ^ len is z, of lo + z hi is that of the whole block
combine : (len x z : ℕ) (v w : ℕ → ℕ) → IsCongruent (x ^ len) z →
    ((j : ℕ) → j < len → IsCongruent (v j) (w j + z * w (len + j))) →
    IsCongruent (sum_below len (λ j. v j * x ^ j)) (sum_below (len + len) (λ j. w j * x ^ j))
combine len x z v w power h =
    congruent_trans
    (sum_same len (λ j. v j * x ^ j) (λ j. w j * x ^ j + w (len + j) * x ^ (len + j)) (λ j p.
    congruent_trans (congruent_mul (h j p) (congruent_refl (x ^ j)))
    (congruent_trans (congruent_of (spread (w j) z (w (len + j)) (x ^ j)))
    (congruent_add (congruent_refl (w j * x ^ j)) (congruent_mul (congruent_refl (w (len + j)))
    (congruent_trans (congruent_mul (congruent_sym power) (congruent_refl (x ^ j))) (congruent_of (sym (pow-add x len j)))))))))
    (congruent_of (sum_add len (λ j. w j * x ^ j) (λ j. w (len + j) * x ^ (len + j)) ∙ sym (sum_below-plus len len (λ j. w j * x ^ j))))
  where
    spread : (a z b y : ℕ) → (a + z * b) * y ≡ a * y + b * (z * y)
    spread a z b y = omega arith

-- the value at x of the n coefficients from start on
unfoldable pub block_value : ℕ → ℕ → (ℕ → ℕ) → ℕ → ℕ
block_value n start w x = sum_below n (λ j. w (start + j) * x ^ j)

half_step : (len n start place i z : ℕ) (first v w : ℕ → ℕ) → n ≡ len + len → IsCongruent (root i ^ len) z →
    ((j : ℕ) → j < len → IsCongruent (v (place + j)) (w (start + j) + z * w (start + j + len))) →
    IsCongruent (block_value n start w (root i)) (transform first i) → IsCongruent (block_value len place v (root i)) (transform first i)
unfolding block_value
half_step len n start place i z first v w twice power h kept =
    congruent_trans
    (combine len (root i) z (λ j. v (place + j)) (λ j. w (start + j)) power (λ j p.
    let e : start + (len + j) ≡ start + j + len = omega arith in rw e (h j p)))
    (rw twice at kept)

-- each block of n coefficients keeps, at each of its leaves, the value of the polynomial
abbrev pub KeepsValues : ℕ → ℕ → (ℕ → ℕ) → (ℕ → ℕ) → Type 0
KeepsValues count n first w = (b k : ℕ) → b < count → k < n →
    IsCongruent (block_value n (n * b) w (root (n * b + k))) (transform first (n * b + k))

whole_block : (w : ℕ → ℕ) (start i : ℕ) → start ≡ 0 → IsCongruent (block_value 256 start w (root i)) (transform w i)
unfolding block_value transform root
whole_block w start i e = grind (arith, ints, common_steps, congruent_trans, congruent_of, sum_equal, congruent_sym, congruent_mod)

pub values_start : (w : ℕ → ℕ) → KeepsValues 1 256 w w
values_start w b k p q = whole_block w (256 * b) (256 * b + k) (omega arith)

module _ (s : ℕ) (first w v : ℕ → ℕ) (p : s < 8) (layer : IsLayer (2 ^ s) (2 ^ (7 - s)) w v) (kept : KeepsValues (2 ^ s) (2 * 2 ^ (7 - s)) first w) where
  values_even : (b k : ℕ) → b < 2 ^ s → k < 2 ^ (7 - s) →
      IsCongruent (block_value (2 ^ (7 - s)) (2 ^ (7 - s) * (2 * b)) v (root (2 ^ (7 - s) * (2 * b) + k))) (transform first (2 ^ (7 - s) * (2 * b) + k))
  values_even b k q r =
      let len = 2 ^ (7 - s) in
      let e : len * (2 * b) ≡ 2 * len * b = omega arith in
      rw e (half_step len (2 * len) (2 * len * b) (2 * len * b) (2 * len * b + k) (zeta_at (2 ^ s + b)) first v w (omega arith)
      (first_half s b k p q r) (λ j h. (layer b j q h).0) (kept b k q (omega arith)))

  values_odd : (b k : ℕ) → b < 2 ^ s → k < 2 ^ (7 - s) →
      IsCongruent (block_value (2 ^ (7 - s)) (2 ^ (7 - s) * (2 * b + 1)) v (root (2 ^ (7 - s) * (2 * b + 1) + k))) (transform first (2 ^ (7 - s) * (2 * b + 1) + k))
  values_odd b k q r =
      let len = 2 ^ (7 - s) in
      let e : len * (2 * b + 1) + k ≡ 2 * len * b + k + len = omega arith in
      let power : IsCongruent (root (2 * len * b + k + len) ^ len) (8380416 * zeta_at (2 ^ s + b)) = second_half s b k p q r in
      let before : IsCongruent (block_value (2 * len) (2 * len * b) w (root (2 * len * b + k + len))) (transform first (2 * len * b + k + len)) =
      (let f : 2 * len * b + k + len ≡ 2 * len * b + (k + len) = omega arith in rw f (kept b (k + len) q (omega arith))) in
      rw e (half_step len (2 * len) (2 * len * b) (len * (2 * b + 1)) (2 * len * b + k + len) (8380416 * zeta_at (2 ^ s + b)) first v w (omega arith)
      power (λ j h.
      let g : len * (2 * b + 1) + j ≡ 2 * len * b + j + len = omega arith in
      rw g (congruent_trans (layer b j q h).1 (congruent_of (omega arith)))) before)

pub values_layer : (s : ℕ) (first w v : ℕ → ℕ) → s < 8 → IsLayer (2 ^ s) (2 ^ (7 - s)) w v →
    KeepsValues (2 ^ s) (2 * 2 ^ (7 - s)) first w → KeepsValues (2 * 2 ^ s) (2 ^ (7 - s)) first v
values_layer s first w v p layer kept c k q r = elim (dec_lt (c % 2) 1) [
  | yes h ↦ (let e : c ≡ 2 * (c / 2) = omega arith in
      subst (λ d. IsCongruent (block_value (2 ^ (7 - s)) (2 ^ (7 - s) * d) v (root (2 ^ (7 - s) * d + k))) (transform first (2 ^ (7 - s) * d + k))) (sym e)
      (values_even s first w v p layer kept (c / 2) k (omega arith) r))
  | no h ↦ (let e : c ≡ 2 * (c / 2) + 1 = omega arith in
      subst (λ d. IsCongruent (block_value (2 ^ (7 - s)) (2 ^ (7 - s) * d) v (root (2 ^ (7 - s) * d + k))) (transform first (2 ^ (7 - s) * d + k))) (sym e)
      (values_odd s first w v p layer kept (c / 2) k (omega arith) r))
]

-- the shape of layer s: 2 ^ s blocks of 2 ^ (8 - s), halved
abbrev shape_test : ℕ → Bool
shape_test s = both (eqb (2 ^ (8 - s) / 2) (2 ^ (7 - s))) (both (eqb (2 * 2 ^ (7 - s)) (2 ^ (8 - s))) (both (eqb (2 ^ s * 2 ^ (7 - s)) 128) (eqb (2 * 2 ^ s) (2 ^ (s + 1)))))

shape_tested : all_below 8 shape_test ≡ true
shape_tested = refl

pub layer_shape : (s : ℕ) → s < 8 → (2 ^ (8 - s) / 2 ≡ 2 ^ (7 - s)) × (2 * 2 ^ (7 - s) ≡ 2 ^ (8 - s)) × (2 ^ s * 2 ^ (7 - s) ≡ 128) × (2 * 2 ^ s ≡ 2 ^ (s + 1))
layer_shape s p =
    let all = at_index 8 shape_test shape_tested s p in
    let rest = both_second _ _ all in
    let last = both_second _ _ rest in
    (eqb-true _ _ (both_first _ _ all), eqb-true _ _ (both_first _ _ rest), eqb-true _ _ (both_first _ _ last), eqb-true _ _ (both_second _ _ last))

pub halved : (s len : ℕ) → s < 8 → len ≡ 2 ^ (8 - s) / 2 → len / 2 ≡ 2 ^ (8 - (s + 1)) / 2
halved s len p e = let f : 8 - (s + 1) ≡ 7 - s = omega arith in rw (f, e, (layer_shape s p).0)

-- a loop's step: its invariant is KeepsValues (2 ^ s) (2 ^ (8 - s))
pub values_next : (s count len : ℕ) (first w v : ℕ → ℕ) → s < 8 → count ≡ 2 ^ s → len ≡ 2 ^ (8 - s) / 2 → IsLayer count len w v →
    KeepsValues (2 ^ s) (2 ^ (8 - s)) first w → KeepsValues (2 ^ (s + 1)) (2 ^ (8 - (s + 1))) first v
values_next s count len first w v p ec el layer kept =
    let shape = layer_shape s p in
    let e1 : len ≡ 2 ^ (7 - s) = el ∙ shape.0 in
    let e2 : 8 - (s + 1) ≡ 7 - s = omega arith in
    let before : KeepsValues (2 ^ s) (2 * 2 ^ (7 - s)) first w = subst (λ n. KeepsValues (2 ^ s) n first w) (sym shape.1) kept in
    let step : IsLayer (2 ^ s) (2 ^ (7 - s)) w v = subst (λ n. IsLayer (2 ^ s) n w v) e1 (subst (λ n. IsLayer n len w v) ec layer) in
    subst (λ n. KeepsValues n (2 ^ (8 - (s + 1))) first v) shape.3 (subst (λ n. KeepsValues (2 * 2 ^ s) (2 ^ n) first v) (sym e2) (values_layer s first w v p step before))

single_block : (w : ℕ → ℕ) (start x : ℕ) → block_value 1 start w x ≡ w start
unfolding block_value
single_block w start x = sum_below-one (λ j. w (start + j) * x ^ j) ∙ rw (add-zero, pow-zero) (omega arith)

pub values_end : (first w : ℕ → ℕ) → KeepsValues 256 1 first w → (i : ℕ) → i < 256 → IsCongruent (w i) (transform first i)
values_end first w kept i p =
    let h = kept i 0 p (omega arith) in
    let e : 1 * i ≡ i = omega arith in
    let f : 1 * i + 0 ≡ i = omega arith in
    congruent_trans (congruent_of (sym (single_block w i (root i)))) (rw (f, e) at h)

-- eight layers in order: layer s has 2 ^ s blocks
pub network : (w : ℕ → ℕ → ℕ) → ((s : ℕ) → s < 8 → IsLayer (2 ^ s) (2 ^ (7 - s)) (w s) (w (s + 1))) →
    (i : ℕ) → i < 256 → IsCongruent (w 8 i) (transform (w 0) i)
network w h = values_end (w 0) (w 8)
    (values_layer 7 (w 0) (w 7) (w 8) (omega arith) (h 7 (omega arith))
    (values_layer 6 (w 0) (w 6) (w 7) (omega arith) (h 6 (omega arith))
    (values_layer 5 (w 0) (w 5) (w 6) (omega arith) (h 5 (omega arith))
    (values_layer 4 (w 0) (w 4) (w 5) (omega arith) (h 4 (omega arith))
    (values_layer 3 (w 0) (w 3) (w 4) (omega arith) (h 3 (omega arith))
    (values_layer 2 (w 0) (w 2) (w 3) (omega arith) (h 2 (omega arith))
    (values_layer 1 (w 0) (w 1) (w 2) (omega arith) (h 1 (omega arith))
    (values_layer 0 (w 0) (w 0) (w 1) (omega arith) (h 0 (omega arith)) (values_start (w 0))))))))))

-- The network backwards, times 8347681, is the inverse transform.

-- what the n leaves from start on bring to coefficient j
unfoldable pub leaf_sum : ℕ → ℕ → (ℕ → ℕ) → ℕ → ℕ
leaf_sum n start v j = sum_below n (λ k. v (start + k) * inverse_root (start + k) ^ j)

-- each block of n coefficients holds the sums of its leaves
abbrev pub HoldsSums : ℕ → ℕ → (ℕ → ℕ) → (ℕ → ℕ) → Type 0
HoldsSums count n first w = (b j : ℕ) → b < count → j < n → IsCongruent (w (n * b + j)) (leaf_sum n (n * b) first j)

single_leaf : (w : ℕ → ℕ) (start : ℕ) → leaf_sum 1 start w 0 ≡ w start
unfolding leaf_sum
single_leaf w start = sum_below-one (λ k. w (start + k) * inverse_root (start + k) ^ 0) ∙ rw (add-zero start, pow-zero) (omega arith)

pub sums_start : (w : ℕ → ℕ) → HoldsSums 256 1 w w
sums_start w b j p q =
    let e : j ≡ 0 = omega arith in
    let f : 1 * b + j ≡ 1 * b = omega arith in
    rw (f, e) (congruent_of (sym (single_leaf w (1 * b))))

-- two blocks of leaves
two_blocks : (len n start j : ℕ) (v : ℕ → ℕ) → n ≡ len + len → leaf_sum n start v j ≡ leaf_sum len start v j + leaf_sum len (start + len) v j
unfolding leaf_sum
two_blocks len n start j v e = grind (arith, ints, common_steps, sum_below-plus, sum_equal)

-- where all leaves of a block have the power y
leaves_scaled : (len start y j : ℕ) (v : ℕ → ℕ) → ((k : ℕ) → k < len → IsCongruent (inverse_root (start + k) ^ len) y) → IsCongruent (leaf_sum len start v (j + len)) (y * leaf_sum len start v j)
unfolding leaf_sum
leaves_scaled len start y j v h =
    congruent_trans
    (sum_same len (λ k. v (start + k) * inverse_root (start + k) ^ (j + len)) (λ k. y * (v (start + k) * inverse_root (start + k) ^ j)) (λ k p.
    congruent_trans (congruent_of (turn (v (start + k)) (inverse_root (start + k)))) (congruent_mul (h k p) (congruent_refl (v (start + k) * inverse_root (start + k) ^ j)))))
    (congruent_of (sum_below-times len y (λ k. v (start + k) * inverse_root (start + k) ^ j)))
  where
    turn : (a x : ℕ) → a * x ^ (j + len) ≡ x ^ len * (a * x ^ j)
    turn a x = rw (pow-add x j len) (omega arith)

-- minus z times (a - b) is z times (b - a)
minus_turned : (z a b : ℕ) → IsCongruent (8380416 * (z * (a + 8380416 * b))) (z * (b + 8380416 * a))
minus_turned z a b = record { same = omega arith }

module _ (s : ℕ) (first w v : ℕ → ℕ) (p : s < 8) (layer : IsInverseLayer (2 ^ s) (2 ^ (7 - s)) w v) (held : HoldsSums (2 * 2 ^ s) (2 ^ (7 - s)) first w) where
  held_low : (b j : ℕ) → b < 2 ^ s → j < 2 ^ (7 - s) → IsCongruent (w (2 * 2 ^ (7 - s) * b + j)) (leaf_sum (2 ^ (7 - s)) (2 * 2 ^ (7 - s) * b) first j)
  held_low b j q r =
      let e : 2 ^ (7 - s) * (2 * b) ≡ 2 * 2 ^ (7 - s) * b = omega arith in
      rw e at (held (2 * b) j (omega arith) r)

  held_high : (b j : ℕ) → b < 2 ^ s → j < 2 ^ (7 - s) → IsCongruent (w (2 * 2 ^ (7 - s) * b + j + 2 ^ (7 - s))) (leaf_sum (2 ^ (7 - s)) (2 * 2 ^ (7 - s) * b + 2 ^ (7 - s)) first j)
  held_high b j q r =
      let e : 2 ^ (7 - s) * (2 * b + 1) + j ≡ 2 * 2 ^ (7 - s) * b + j + 2 ^ (7 - s) = omega arith in
      let f : 2 ^ (7 - s) * (2 * b + 1) ≡ 2 * 2 ^ (7 - s) * b + 2 ^ (7 - s) = omega arith in
      rw (e, f) at (held (2 * b + 1) j (omega arith) r)

  sums_low : (b j : ℕ) → b < 2 ^ s → j < 2 ^ (7 - s) → IsCongruent (v (2 * 2 ^ (7 - s) * b + j)) (leaf_sum (2 * 2 ^ (7 - s)) (2 * 2 ^ (7 - s) * b) first j)
  sums_low b j q r =
      let len = 2 ^ (7 - s) in
      congruent_trans (layer b j q r).0 (congruent_trans (congruent_add (held_low b j q r) (held_high b j q r)) (congruent_of (sym (two_blocks len (2 * len) (2 * len * b) j first (omega arith)))))

  sums_high : (b j : ℕ) → b < 2 ^ s → j < 2 ^ (7 - s) → IsCongruent (v (2 * 2 ^ (7 - s) * b + j + 2 ^ (7 - s))) (leaf_sum (2 * 2 ^ (7 - s)) (2 * 2 ^ (7 - s) * b) first (j + 2 ^ (7 - s)))
  sums_high b j q r =
      let len = 2 ^ (7 - s) in
      let z = zeta_at (2 * 2 ^ s - 1 - b) in
      let low = leaves_scaled len (2 * len * b) (8380416 * z) j first (λ k h. inverse_first_half s b k p q h) in
      let high = leaves_scaled len (2 * len * b + len) z j first (λ k h.
      let e : 2 * len * b + len + k ≡ 2 * len * b + k + len = omega arith in rw e (inverse_second_half s b k p q h)) in
      let both : IsCongruent (leaf_sum len (2 * len * b) first (j + len) + leaf_sum len (2 * len * b + len) first (j + len)) (8380416 * z * leaf_sum len (2 * len * b) first j + z * leaf_sum len (2 * len * b + len) first j) = congruent_add low high in
      let moved : IsCongruent (v (2 * len * b + j + len)) (z * (leaf_sum len (2 * len * b + len) first j + 8380416 * leaf_sum len (2 * len * b) first j)) =
      congruent_trans (layer b j q r).1 (congruent_trans (minus_turned z (w (2 * len * b + j)) (w (2 * len * b + j + len))) (congruent_mul (congruent_refl z) (congruent_add (held_high b j q r) (congruent_mul (congruent_refl 8380416) (held_low b j q r))))) in
      congruent_trans moved (congruent_trans (congruent_of (omega arith)) (congruent_trans (congruent_sym both) (congruent_of (sym (two_blocks len (2 * len) (2 * len * b) (j + len) first (omega arith))))))

pub sums_layer : (s : ℕ) (first w v : ℕ → ℕ) → s < 8 → IsInverseLayer (2 ^ s) (2 ^ (7 - s)) w v →
    HoldsSums (2 * 2 ^ s) (2 ^ (7 - s)) first w → HoldsSums (2 ^ s) (2 * 2 ^ (7 - s)) first v
sums_layer s first w v p layer held b j q r = elim (dec_lt j (2 ^ (7 - s))) [
  | yes h ↦ sums_low s first w v p layer held b j q h
  | no h ↦ (let len = 2 ^ (7 - s) in
      let e : j - len + len ≡ j = omega arith in
      let f : 2 * len * b + (j - len) + len ≡ 2 * len * b + j = omega arith in
      rw (f, e) at (sums_high s first w v p layer held b (j - len) q (omega arith)))
]

-- a loop's step: its invariant is HoldsSums (2 ^ (8 - s)) (2 ^ s)
pub sums_next : (s count len : ℕ) (first w v : ℕ → ℕ) → s < 8 → count ≡ 2 ^ (8 - s) / 2 → len ≡ 2 ^ s → IsInverseLayer count len w v →
    HoldsSums (2 ^ (8 - s)) (2 ^ s) first w → HoldsSums (2 ^ (8 - (s + 1))) (2 ^ (s + 1)) first v
sums_next s count len first w v p ec el layer held =
    let shape = layer_shape s p in
    let e1 : 7 - (7 - s) ≡ s = omega arith in
    let e2 : 8 - (s + 1) ≡ 7 - s = omega arith in
    let before : HoldsSums (2 * 2 ^ (7 - s)) (2 ^ (7 - (7 - s))) first w = subst (λ n. HoldsSums (2 * 2 ^ (7 - s)) (2 ^ n) first w) (sym e1) (subst (λ n. HoldsSums n (2 ^ s) first w) (sym shape.1) held) in
    let step : IsInverseLayer (2 ^ (7 - s)) (2 ^ (7 - (7 - s))) w v = subst (λ n. IsInverseLayer (2 ^ (7 - s)) (2 ^ n) w v) (sym e1) (subst (λ n. IsInverseLayer (2 ^ (7 - s)) n w v) el (subst (λ n. IsInverseLayer n len w v) (ec ∙ shape.0) layer)) in
    let after : HoldsSums (2 ^ (7 - s)) (2 * 2 ^ s) first v = subst (λ n. HoldsSums (2 ^ (7 - s)) (2 * 2 ^ n) first v) e1 (sums_layer (7 - s) first w v (omega arith) step before) in
    subst (λ n. HoldsSums (2 ^ (8 - (s + 1))) n first v) shape.3 (subst (λ n. HoldsSums (2 ^ n) (2 * 2 ^ s) first v) (sym e2) after)

whole_sum : (v : ℕ → ℕ) (start j : ℕ) → start ≡ 0 → IsCongruent (8347681 * leaf_sum 256 start v j) (inverse_transform v j)
unfolding leaf_sum inverse_transform inverse_root
whole_sum v start j e = grind (arith, ints, common_steps, congruent_trans, congruent_of, sum_equal, congruent_sym, congruent_mod)

pub sums_end : (first w : ℕ → ℕ) → HoldsSums 1 256 first w → (j : ℕ) → j < 256 → IsCongruent (8347681 * w j) (inverse_transform first j)
sums_end first w held j p =
    let h = held 0 j (omega arith) p in
    let e : 256 * 0 + j ≡ j = omega arith in
    congruent_trans (congruent_mul (congruent_refl 8347681) (rw e at h)) (whole_sum first (256 * 0) j (omega arith))
