-- The bytes of a vector, polynomial by polynomial.
use Rattle.std.proofs.Common.{◌≡◌, ℕ, List, length, ap, sym, ◌∙◌, arith, ◌*◌, ◌^◌, ◌<◌, [], ◌∷◌, ℤ, pos, ◌+ℤ◌, ◌-ℤ◌, ◌≤ℤ◌, ◌<ℤ◌, nat_abs, map, subst}
use Rattle.std.specs.List.{All, Any, flat_map}
use Rattle.std.proofs.lemmas.Int.{ints}
use Rattle.std.proofs.lemmas.List.Elements.{All-head, All-tail, All-nil, All-cons}
use Rattle.fips204_base.specs.declared.types.R.{R}
use Rattle.fips204_base.specs.Encodings.{vector_bytes}
use Rattle.fips204_base.specs.Vectors.{IsVector}
use Rattle.fips204_base.proofs.Pieces.{Reads, length-pieces, reads_all}
use Rattle.fips204_base.proofs.Packing.{Unpacks, length-polynomial_bytes}
use Rattle.fips204_base.specs.Packing.{polynomial_bytes, width}
use Rattle.fips204_base.specs.Bounds.{Bounds, PolynomialInRange}
use Rattle.fips204_base.specs.EncodingSteps.{coefficient, field}
use Rattle.std.proofs.lemmas.Grind.{common_steps}

-- where there are as many fields as coefficients, each field is that of a coefficient in range
whole_coefficient : (a b x : ℤ) (p : ℕ) → Bounds a b → pos p ≡ a +ℤ b +ℤ pos 1 → field a b x < p → coefficient a b (field a b x) ≡ x → ((pos 0 -ℤ a) ≤ℤ x) × (x ≤ℤ b)
unfolding field coefficient
whole_coefficient a b x p bounds whole small same = grind (arith, ints, bounds, whole, small, same)

whole_range : (a b : ℤ) (w : List ℤ) → Bounds a b → pos (2 ^ width a b) ≡ a +ℤ b +ℤ pos 1 → All (λ f. f < 2 ^ width a b) (map (field a b) w)
    → All (λ x. coefficient a b (field a b x) ≡ x) w → PolynomialInRange (pos 0 -ℤ a) b w
whole_range a b [] bounds whole small same = All-nil (λ (x : ℤ). ((pos 0 -ℤ a) ≤ℤ x) × (x ≤ℤ b))
whole_range a b (x ∷ w) bounds whole small same =
    let P = λ (f : ℕ). f < 2 ^ width a b in
    let E = λ (y : ℤ). coefficient a b (field a b y) ≡ y in
    let here = whole_coefficient a b x (2 ^ width a b) bounds whole (All-head P (field a b x) (map (field a b) w) small) (All-head E x w same) in
    let rest = whole_range a b w bounds whole (All-tail P (field a b x) (map (field a b) w) small) (All-tail E x w same) in
    All-cons (λ (y : ℤ). ((pos 0 -ℤ a) ≤ℤ y) × (y ≤ℤ b)) x w here rest

pub unpacked_range : (a b : ℤ) (bytes : List ℕ) (w : List ℤ) → Bounds a b → pos (2 ^ width a b) ≡ a +ℤ b +ℤ pos 1 → Unpacks a b bytes w → PolynomialInRange (pos 0 -ℤ a) b w
unpacked_range a b bytes w bounds whole u = whole_range a b w bounds whole u.same_fields.small_fields u.coefficients

-- none of what is in range is above it
pub none_above : (a b : ℤ) (w : List ℤ) → PolynomialInRange a b w → Any (λ x. b <ℤ x) w → ⊥
none_above a b w range h = let within = range h.0 h.1 h.2 in omega (arith, ints, within.1, h.3, h.4)

-- the bounds as natural numbers
pub bytes_at_integers : (a b : ℤ) (v : List R) → Bounds a b → vector_bytes (nat_abs a) (nat_abs b) v ≡ flat_map (λ w. polynomial_bytes a b w.0) v
bytes_at_integers a b v bounds = grind (arith, ints, common_steps)

pub vector_at_integers : (n : ℕ) (a b : ℤ) (v : List R) → Bounds a b → length v ≡ n → All (λ w. length w.0 ≡ 256) v → All (λ w. PolynomialInRange (pos 0 -ℤ a) b w.0) v
    → IsVector n (nat_abs a) (nat_abs b) v
vector_at_integers n a b v bounds count places range = grind (arith, ints, common_steps)

pub same_bounds : (n a b c d : ℕ) (v : List R) (bytes : List ℕ) → a ≡ c → b ≡ d → IsVector n a b v → vector_bytes a b v ≡ bytes → IsVector n c d v × (vector_bytes c d v ≡ bytes)
same_bounds n a b c d v bytes p q vector packed =
    subst (λ m. IsVector n c m v × (vector_bytes c m v ≡ bytes)) q (subst (λ m. IsVector n m b v × (vector_bytes m b v ≡ bytes)) p (vector, packed))

-- the polynomials of a vector, and the bytes of one
abbrev pub IsPolynomial : ℤ → ℤ → R → Type 0
IsPolynomial a b w = PolynomialInRange (pos 0 -ℤ a) b w.0 × (length w.0 ≡ 256)

abbrev pub packed : ℤ → ℤ → R → List ℕ
packed a b w = polynomial_bytes a b w.0

-- all are read
pub read_all : (n : ℕ) (a b : ℤ) (size i : ℕ) (bytes : List ℕ) (v : List R) → Bounds a b → Reads (IsPolynomial a b) (packed a b) n size i bytes v → i ≡ n → size ≡ 32 * width a b
    → length bytes ≡ 32 * width a b * n → IsVector n (nat_abs a) (nat_abs b) v × (vector_bytes (nat_abs a) (nat_abs b) v ≡ bytes)
read_all n a b size i bytes v bounds r done each room =
    let ((count, all), same) = reads_all (IsPolynomial a b) (packed a b) n size i bytes v r done (room ∙ ap (λ s. s * n) (sym each)) in
    (vector_at_integers n a b v bounds count (λ j d h. (all j d h).1) (λ j d h. (all j d h).0), bytes_at_integers a b v bounds ∙ same)

pub range_at_integers : (a b : ℤ) (v : List R) → Bounds a b → All (λ w. PolynomialInRange (pos 0 -ℤ pos (nat_abs a)) (pos (nat_abs b)) w.0) v → All (λ w. PolynomialInRange (pos 0 -ℤ a) b w.0) v
range_at_integers a b v bounds range = grind (arith, ints, common_steps)

pub vector-length : (n a b : ℕ) (v : List R) → IsVector n a b v → length (vector_bytes a b v) ≡ 32 * width (pos a) (pos b) * n
vector-length n a b v h =
    length-pieces (λ (w : R). length w.0 ≡ 256) (packed (pos a) (pos b)) (32 * width (pos a) (pos b)) v (λ w. length-polynomial_bytes (pos a) (pos b) w.0) h.places
    ∙ ap (λ i. 32 * width (pos a) (pos b) * i) h.rows
