-- The transform of a product is the product of the transforms, and the laws of the ring follow.
use Rattle.std.proofs.Common.{◌≡◌, ℕ, ◌<◌, ◌%◌, ◌≤◌, ◌+◌, ◌*◌, ◌^◌, ◌-◌, arith, ap, sym, ◌∙◌}
use Rattle.std.specs.Prelude.{nat_lt, if◌then◌else◌}
use Rattle.std.proofs.lemmas.Nat.{pow-add}
use Rattle.std.proofs.lemmas.Bool.{lt-ltb, le-ltb}
use Rattle.fips204_base.specs.Residues.{sum_below, IsCongruent}
use Rattle.fips204_base.specs.Transforms.{transform, inverse_transform, product, plus, minus, pointwise, InverseOfTransform}
use Rattle.fips204_base.specs.PlainTransforms.{row_product}
use Rattle.fips204_base.proofs.Residues.{congruent_refl, congruent_of, congruent_sym, congruent_trans, congruent_mod, congruent_add, congruent_mul, sum_same, sum_equal, sum_below-swap, sum_below-plus, sum_below-times, sum_below-times_right, congruent_equal_mod, congruent_equal, sum_add}
use Rattle.fips204_base.proofs.Roots.{root, inverse_root, root_turn}
use Rattle.fips204_base.proofs.Transforms.{value_at, transform_value, inverse_of_transform, transform_of_inverse}
use Rattle.std.proofs.lemmas.Int.{ints}
use Rattle.std.proofs.lemmas.Grind.{common_steps}

-- coefficient n of X^i b, where X^256 is minus one
unfoldable pub shifted : (ℕ → ℕ) → ℕ → ℕ → ℕ
shifted b i n = if nat_lt n i then 8380416 * b (256 + n - i) else b (n - i)

shifted-low : (b : ℕ → ℕ) (i n : ℕ) → n < i → shifted b i n ≡ 8380416 * b (256 + n - i)
unfolding shifted
shifted-low b i n h = rw (lt-ltb n i h)

shifted-high : (b : ℕ → ℕ) (i n : ℕ) → i ≤ n → shifted b i n ≡ b (n - i)
unfolding shifted
shifted-high b i n h = rw (le-ltb n i h)

-- where x^256 = -1, the value at x of X^i b is x^i times that of b
module _ (x i c : ℕ) (b : ℕ → ℕ) (e : i + c ≡ 256) (turn : IsCongruent (x ^ 256) 8380416) where
  shift_low : (n : ℕ) → n < i → IsCongruent (shifted b i n * x ^ n) (x ^ i * (b (c + n) * x ^ (c + n)))
  shift_low n h =
      let place : 256 + n - i ≡ c + n = omega arith in
      let whole : x ^ 256 ≡ x ^ i * x ^ c = ap (λ k. x ^ k) (sym e) ∙ pow-add x i c in
      let value : shifted b i n ≡ 8380416 * b (c + n) = shifted-low b i n h ∙ ap (λ k. 8380416 * b k) place in
      congruent_trans (congruent_of (ap (λ t. t * x ^ n) value ∙ regroup 8380416 (b (c + n)) (x ^ n)))
      (congruent_trans (congruent_mul (congruent_sym turn) (congruent_refl (b (c + n) * x ^ n)))
      (congruent_of (rw (whole, pow-add x c n) (omega arith))))
    where
      regroup : (m a y : ℕ) → m * a * y ≡ m * (a * y)
      regroup m a y = omega arith

  shift_high : (m : ℕ) → m < c → shifted b i (i + m) * x ^ (i + m) ≡ x ^ i * (b m * x ^ m)
  shift_high m h =
      let place : i + m - i ≡ m = omega arith in
      rw (shifted-high b i (i + m) (omega arith), place, pow-add x i m) (omega arith)

  shift_value : IsCongruent (value_at (shifted b i) x) (x ^ i * value_at b x)
  shift_value =
      let f = λ (n : ℕ). shifted b i n * x ^ n in
      let g = λ (n : ℕ). x ^ i * (b n * x ^ n) in
      let left : sum_below 256 f ≡ sum_below i f + sum_below c (λ m. f (i + m)) = ap (λ n. sum_below n f) (sym e) ∙ sum_below-plus i c f in
      let turned : c + i ≡ 256 = omega arith in
      let right : x ^ i * value_at b x ≡ sum_below c g + sum_below i (λ n. g (c + n)) =
      sym (sum_below-times 256 (x ^ i) (λ n. b n * x ^ n)) ∙ (ap (λ n. sum_below n g) (sym turned) ∙ sum_below-plus c i g) in
      let low = sum_same i f (λ n. g (c + n)) shift_low in
      let high = sum_equal c (λ m. f (i + m)) g shift_high in
      congruent_trans (congruent_of left) (congruent_trans (congruent_add low (congruent_of high)) (congruent_of (omega (arith, right))))

pub product_value : (a b : ℕ → ℕ) (x : ℕ) → IsCongruent (x ^ 256) 8380416 → IsCongruent (value_at (product a b) x) (value_at a x * value_at b x)
unfolding product shifted
product_value a b x turn =
    let rows = λ (n : ℕ) (i : ℕ). a i * (shifted b i n * x ^ n) in
    let columns : IsCongruent (sum_below 256 (λ i. sum_below 256 (λ n. rows n i))) (sum_below 256 (λ i. a i * x ^ i * value_at b x)) =
    sum_same 256 (λ i. sum_below 256 (λ n. rows n i)) (λ i. a i * x ^ i * value_at b x) (λ i p.
    congruent_trans (congruent_of (sum_below-times 256 (a i) (λ n. shifted b i n * x ^ n)))
    (congruent_trans (congruent_mul (congruent_refl (a i)) (shift_value x i (256 - i) b (omega arith) turn)) (congruent_of (regroup (a i) (x ^ i) (value_at b x))))) in
    congruent_trans (sum_same 256 (λ n. product a b n * x ^ n) (λ n. sum_below 256 (rows n)) (λ n p.
    congruent_trans (congruent_mul (congruent_mod (sum_below 256 (λ i. a i * shifted b i n))) (congruent_refl (x ^ n)))
    (congruent_of (sum_below-times_right 256 (x ^ n) (λ i. a i * shifted b i n) ∙ sum_equal 256 (λ i. a i * shifted b i n * x ^ n) (rows n) (λ i q. omega arith)))))
    (congruent_trans (congruent_of (sum_below-swap 256 256 rows))
    (congruent_trans columns (congruent_of (sym (sum_below-times_right 256 (value_at b x) (λ i. a i * x ^ i))))))
  where
    regroup : (s t u : ℕ) → s * (t * u) ≡ s * t * u
    regroup s t u = omega arith

pub transform_of_product : (a b : ℕ → ℕ) (i : ℕ) → i < 256 → IsCongruent (transform (product a b) i) (transform a i * transform b i)
transform_of_product a b i p =
    congruent_trans (transform_value (product a b) i)
    (congruent_trans (product_value a b (root i) (root_turn i p))
    (congruent_mul (congruent_sym (transform_value a i)) (congruent_sym (transform_value b i))))

-- The laws of the product, each through the transforms, which determine a polynomial.

-- ---- the transforms and the product go by residues
pub transform_same : (v w : ℕ → ℕ) → ((j : ℕ) → j < 256 → IsCongruent (v j) (w j)) → (i : ℕ) → transform v i ≡ transform w i
unfolding transform root
transform_same v w h i = congruent_equal_mod (sum_same 256 (λ j. v j * root i ^ j) (λ j. w j * root i ^ j) (λ j p. congruent_mul (h j p) (congruent_refl (root i ^ j))))

pub inverse_same : (v w : ℕ → ℕ) → ((i : ℕ) → i < 256 → IsCongruent (v i) (w i)) → (j : ℕ) → inverse_transform v j ≡ inverse_transform w j
unfolding inverse_transform inverse_root
inverse_same v w h j = congruent_equal_mod (congruent_mul (congruent_refl 8347681) (sum_same 256 (λ i. v i * inverse_root i ^ j) (λ i. w i * inverse_root i ^ j) (λ i p. congruent_mul (h i p) (congruent_refl (inverse_root i ^ j)))))

-- two polynomials with one transform are the same
pub by_transforms : (v w : ℕ → ℕ) → ((i : ℕ) → i < 256 → IsCongruent (transform v i) (transform w i)) → (j : ℕ) → j < 256 → IsCongruent (v j) (w j)
by_transforms v w h j p =
    congruent_trans (congruent_sym (inverse_of_transform v j p))
    (congruent_trans (congruent_of (inverse_same (transform v) (transform w) h j)) (inverse_of_transform w j p))

pub inverse_below : (v : ℕ → ℕ) (j : ℕ) → inverse_transform v j < 8380417
unfolding inverse_transform inverse_root
inverse_below v j = omega arith

pub inverse_reduced : (v : ℕ → ℕ) (j : ℕ) → inverse_transform v j ≡ inverse_transform v j % 8380417
inverse_reduced v j = omega (arith, inverse_below v j)

-- a number congruent to a value of the inverse transform, reduced
pub inverse_residue : (v : ℕ → ℕ) (j a : ℕ) → IsCongruent a (inverse_transform v j) → a % 8380417 ≡ inverse_transform v j
inverse_residue v j a s = congruent_equal_mod s ∙ sym (inverse_reduced v j)

pub transform_below : (w : ℕ → ℕ) (i : ℕ) → transform w i < 8380417
unfolding transform root
transform_below w i = omega arith

-- a number congruent to a value of the transform, reduced
pub transform_residue : (w : ℕ → ℕ) (i a : ℕ) → IsCongruent a (transform w i) → a % 8380417 ≡ transform w i
transform_residue w i a s = let below = transform_below w i in omega (arith, s.same)

pub product_below : (a b : ℕ → ℕ) (n : ℕ) → product a b n < 8380417
unfolding product shifted
product_below a b n = omega arith

pub row_below : (l : ℕ) (a s : ℕ → ℕ → ℕ) (n : ℕ) → row_product l a s n < 8380417
unfolding row_product
row_below l a s n = omega arith

product_residue : (a b : ℕ → ℕ) (n : ℕ) → product a b n % 8380417 ≡ product a b n
unfolding product shifted
product_residue a b n = omega arith

pub by_transforms_exactly : (a b c d : ℕ → ℕ) → ((i : ℕ) → i < 256 → IsCongruent (transform (product a b) i) (transform (product c d) i)) → (n : ℕ) → n < 256 → product a b n ≡ product c d n
by_transforms_exactly a b c d h n p =
    sym (product_residue a b n) ∙ (congruent_equal_mod (by_transforms (product a b) (product c d) h n p) ∙ product_residue c d n)

-- ---- the inverse transform of the coordinatewise product is the product
pub product_of_transforms : (a b : ℕ → ℕ) (n : ℕ) → n < 256 → inverse_transform (pointwise (transform a) (transform b)) n ≡ product a b n
product_of_transforms a b n p =
    inverse_same (pointwise (transform a) (transform b)) (transform (product a b)) (λ i q.
    congruent_trans (congruent_mod (transform a i * transform b i)) (congruent_sym (transform_of_product a b i q))) n
    ∙ (inverse_reduced (transform (product a b)) n ∙ (congruent_equal_mod (inverse_of_transform (product a b) n p) ∙ product_residue a b n))

-- ---- the ring laws
pub product_same : (a b c d : ℕ → ℕ) → ((j : ℕ) → j < 256 → IsCongruent (a j) (c j)) → ((j : ℕ) → j < 256 → IsCongruent (b j) (d j)) → (n : ℕ) → n < 256 → product a b n ≡ product c d n
product_same a b c d e f = grind (arith, ints, common_steps, by_transforms_exactly, congruent_trans, transform_of_product, congruent_mul, congruent_of, transform_same, congruent_sym)

pub transform_of_plus : (a b : ℕ → ℕ) (i : ℕ) → IsCongruent (transform (plus a b) i) (transform a i + transform b i)
transform_of_plus a b i =
    let x = root i in
    congruent_trans (transform_value (plus a b) i)
    (congruent_trans (sum_same 256 (λ j. plus a b j * x ^ j) (λ j. a j * x ^ j + b j * x ^ j) (λ j p.
    congruent_trans (congruent_mul (congruent_mod (a j + b j)) (congruent_refl (x ^ j))) (congruent_of (spread (a j) (b j) (x ^ j)))))
    (congruent_trans (congruent_of (sum_add 256 (λ j. a j * x ^ j) (λ j. b j * x ^ j))) (congruent_add (congruent_sym (transform_value a i)) (congruent_sym (transform_value b i)))))
  where
    spread : (s t u : ℕ) → (s + t) * u ≡ s * u + t * u
    spread s t u = omega arith

pub product_plus : (a b c : ℕ → ℕ) (n : ℕ) → n < 256 → product a (plus b c) n ≡ plus (product a b) (product a c) n
product_plus a b c n p =
    sym (product_residue a (plus b c) n) ∙ (congruent_equal_mod (by_transforms (product a (plus b c)) (plus (product a b) (product a c)) (λ i q.
    congruent_trans (transform_of_product a (plus b c) i q)
    (congruent_trans (congruent_mul (congruent_refl (transform a i)) (transform_of_plus b c i))
    (congruent_trans (congruent_of (spread (transform a i) (transform b i) (transform c i)))
    (congruent_trans (congruent_add (congruent_sym (transform_of_product a b i q)) (congruent_sym (transform_of_product a c i q))) (congruent_sym (transform_of_plus (product a b) (product a c) i)))))) n p)
    ∙ omega arith)
  where
    spread : (s t u : ℕ) → s * (t + u) ≡ s * t + s * u
    spread s t u = omega arith

-- a difference is a sum with q - 1 times the second
pub transform_of_minus : (a b : ℕ → ℕ) (i : ℕ) → IsCongruent (transform (minus a b) i) (transform a i + 8380416 * transform b i)
transform_of_minus a b i =
    let x = root i in
    congruent_trans (transform_value (minus a b) i)
    (congruent_trans (sum_same 256 (λ j. minus a b j * x ^ j) (λ j. a j * x ^ j + 8380416 * (b j * x ^ j)) (λ j p.
    congruent_trans (congruent_mul (congruent_mod (a j + 8380416 * b j)) (congruent_refl (x ^ j))) (congruent_of (spread (a j) (b j) (x ^ j)))))
    (congruent_trans (congruent_of (sum_add 256 (λ j. a j * x ^ j) (λ j. 8380416 * (b j * x ^ j))))
    (congruent_add (congruent_sym (transform_value a i)) (congruent_trans (congruent_of (sum_below-times 256 8380416 (λ j. b j * x ^ j))) (congruent_mul (congruent_refl 8380416) (congruent_sym (transform_value b i)))))))
  where
    spread : (s t u : ℕ) → (s + 8380416 * t) * u ≡ s * u + 8380416 * (t * u)
    spread s t u = omega arith

-- ---- rows of a matrix
pub transform_of_row : (l : ℕ) (a s : ℕ → ℕ → ℕ) (i : ℕ) → i < 256 → IsCongruent (transform (row_product l a s) i) (sum_below l (λ k. transform (a k) i * transform (s k) i))
unfolding row_product
transform_of_row l a s i p =
    let x = root i in
    congruent_trans (transform_value (row_product l a s) i)
    (congruent_trans (sum_same 256 (λ j. row_product l a s j * x ^ j) (λ j. sum_below l (λ k. product (a k) (s k) j * x ^ j)) (λ j q.
    congruent_trans (congruent_mul (congruent_mod (sum_below l (λ k. product (a k) (s k) j))) (congruent_refl (x ^ j))) (congruent_of (sum_below-times_right l (x ^ j) (λ k. product (a k) (s k) j)))))
    (congruent_trans (congruent_of (sum_below-swap 256 l (λ j k. product (a k) (s k) j * x ^ j)))
    (sum_same l (λ k. sum_below 256 (λ j. product (a k) (s k) j * x ^ j)) (λ k. transform (a k) i * transform (s k) i) (λ k q.
    congruent_trans (congruent_sym (transform_value (product (a k) (s k)) i)) (transform_of_product (a k) (s k) i p)))))

row_residue : (l : ℕ) (a s : ℕ → ℕ → ℕ) (n : ℕ) → row_product l a s n ≡ row_product l a s n % 8380417
row_residue l a s n = omega (arith, row_below l a s n)

-- A (c s) = c (A s), row by row
pub row_of_multiple : (l : ℕ) (a s : ℕ → ℕ → ℕ) (c : ℕ → ℕ) (n : ℕ) → n < 256 → row_product l a (λ k. product c (s k)) n ≡ product c (row_product l a s) n
row_of_multiple l a s c n p =
    row_residue l a (λ k. product c (s k)) n ∙ (congruent_equal_mod (by_transforms (row_product l a (λ k. product c (s k))) (product c (row_product l a s)) (λ i q.
    congruent_trans (transform_of_row l a (λ k. product c (s k)) i q)
    (congruent_trans (sum_same l (λ k. transform (a k) i * transform (product c (s k)) i) (λ k. transform c i * (transform (a k) i * transform (s k) i)) (λ k r.
    congruent_trans (congruent_mul (congruent_refl (transform (a k) i)) (transform_of_product c (s k) i q)) (congruent_of (turn (transform (a k) i) (transform c i) (transform (s k) i)))))
    (congruent_trans (congruent_of (sum_below-times l (transform c i) (λ k. transform (a k) i * transform (s k) i)))
    (congruent_trans (congruent_mul (congruent_refl (transform c i)) (congruent_sym (transform_of_row l a s i q))) (congruent_sym (transform_of_product c (row_product l a s) i q)))))) n p)
    ∙ product_residue c (row_product l a s) n)
  where
    turn : (x y z : ℕ) → x * (y * z) ≡ y * (x * z)
    turn x y z = omega arith

-- A (s + t) = A s + A t, row by row
pub row_of_sum : (l : ℕ) (a s t : ℕ → ℕ → ℕ) (n : ℕ) → n < 256 → row_product l a (λ k. plus (s k) (t k)) n ≡ plus (row_product l a s) (row_product l a t) n
row_of_sum l a s t n p =
    row_residue l a (λ k. plus (s k) (t k)) n ∙ (congruent_equal_mod (by_transforms (row_product l a (λ k. plus (s k) (t k))) (plus (row_product l a s) (row_product l a t)) (λ i q.
    congruent_trans (transform_of_row l a (λ k. plus (s k) (t k)) i q)
    (congruent_trans (sum_same l (λ k. transform (a k) i * transform (plus (s k) (t k)) i) (λ k. transform (a k) i * transform (s k) i + transform (a k) i * transform (t k) i) (λ k r.
    congruent_trans (congruent_mul (congruent_refl (transform (a k) i)) (transform_of_plus (s k) (t k) i)) (congruent_of (spread (transform (a k) i) (transform (s k) i) (transform (t k) i)))))
    (congruent_trans (congruent_of (sum_add l (λ k. transform (a k) i * transform (s k) i) (λ k. transform (a k) i * transform (t k) i)))
    (congruent_trans (congruent_add (congruent_sym (transform_of_row l a s i q)) (congruent_sym (transform_of_row l a t i q))) (congruent_sym (transform_of_plus (row_product l a s) (row_product l a t) i)))))) n p)
    ∙ omega arith)
  where
    spread : (x y z : ℕ) → x * (y + z) ≡ x * y + x * z
    spread x y z = omega arith

row_same : (l : ℕ) (p : ℕ → ℕ) (v t s : ℕ → ℕ → ℕ) → ((j : ℕ) → j < 256 → p j ≡ sum_below l (λ k. v k j * t k j) % 8380417) →
    ((k : ℕ) → k < l → (j : ℕ) → j < 256 → t k j ≡ transform (s k) j) → (j : ℕ) → j < 256 → IsCongruent (p j) (sum_below l (λ k. v k j * transform (s k) j))
row_same l p v t s h g j q = grind (arith, ints, common_steps, congruent_trans, congruent_of, congruent_mod, sum_equal)

products_same : (p x y a b : ℕ → ℕ) → ((j : ℕ) → j < 256 → p j ≡ pointwise x y j) → ((j : ℕ) → j < 256 → x j ≡ transform a j) → ((j : ℕ) → j < 256 → y j ≡ transform b j) →
    (j : ℕ) → j < 256 → IsCongruent (p j) (pointwise (transform a) (transform b) j)
products_same p x y a b h f g j q = congruent_of (h j q ∙ rw (f j q, g j q))

-- the sums of products at a place are the transform of the row's product
row_value : (l : ℕ) (v s : ℕ → ℕ → ℕ) (i : ℕ) → i < 256 → IsCongruent (sum_below l (λ k. v k i * transform (s k) i)) (transform (row_product l (λ k. inverse_transform (v k)) s) i)
row_value l v s i q =
    congruent_trans (sum_same l (λ k. v k i * transform (s k) i) (λ k. transform (inverse_transform (v k)) i * transform (s k) i) (λ k r.
    congruent_mul (congruent_sym (transform_of_inverse (v k) i q)) (congruent_refl (transform (s k) i))))
    (congruent_sym (transform_of_row l (λ k. inverse_transform (v k)) s i q))

-- a row of A times s, where the row is given by its transforms: the inverse transform of the sums of products
pub row_by_transforms : (l : ℕ) (v s : ℕ → ℕ → ℕ) (n : ℕ) → n < 256 →
    inverse_transform (λ i. sum_below l (λ k. v k i * transform (s k) i)) n ≡ row_product l (λ k. inverse_transform (v k)) s n
row_by_transforms l v s n p =
    inverse_same (λ i. sum_below l (λ k. v k i * transform (s k) i)) (transform (row_product l (λ k. inverse_transform (v k)) s)) (row_value l v s) n
    ∙ congruent_equal (inverse_of_transform (row_product l (λ k. inverse_transform (v k)) s) n p) (inverse_below (transform (row_product l (λ k. inverse_transform (v k)) s)) n) (row_below l (λ k. inverse_transform (v k)) s n)

-- ---- what is computed from transforms
-- sums of products of transforms make a row of the plain product
pub row_of_products : (l : ℕ) (p : ℕ → ℕ) (v t s : ℕ → ℕ → ℕ) → ((j : ℕ) → j < 256 → p j ≡ sum_below l (λ k. v k j * t k j) % 8380417) →
    ((k : ℕ) → k < l → (j : ℕ) → j < 256 → t k j ≡ transform (s k) j) → (n : ℕ) → n < 256 → inverse_transform p n ≡ row_product l (λ k. inverse_transform (v k)) s n
row_of_products l p v t s h g n q =
    inverse_same p (λ j. sum_below l (λ k. v k j * transform (s k) j)) (row_same l p v t s h g) n ∙ row_by_transforms l v s n q

-- products of transforms make a plain product
pub product_of_products : (p x y a b : ℕ → ℕ) → ((j : ℕ) → j < 256 → p j ≡ pointwise x y j) → ((j : ℕ) → j < 256 → x j ≡ transform a j) → ((j : ℕ) → j < 256 → y j ≡ transform b j) →
    (n : ℕ) → n < 256 → inverse_transform p n ≡ product a b n
product_of_products p x y a b h f g n q =
    inverse_same p (pointwise (transform a) (transform b)) (products_same p x y a b h f g) n ∙ product_of_transforms a b n q

-- ---- the same for whole lists
pub inverse_of_transforms : InverseOfTransform
inverse_of_transforms w n p = grind (arith, ints, common_steps, inverse_residue, congruent_sym, inverse_of_transform, transform_residue, transform_of_inverse)
