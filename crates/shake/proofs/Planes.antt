-- A round by planes: what the code takes of five lanes at a time is what the steps of the standard give of the whole state. Each
-- lemma computes at each place.
use Rattle.std.proofs.Common.{◌≡◌, ℕ, zero, suc, ◌<◌, ◌+◌, ◌*◌, ◌%◌, List, [], ◌∷◌, map, slice_index, bit_and, refl, arith}
use Rattle.std.specs.Int.{w64, bit_not, rotate_left}
use Rattle.std.specs.List.{range_with_len}
use Rattle.shake.specs.Keccak.{◌⊕◌, lane, plane, effects, offsets, theta, rho, pi, chi, iota}
use Rattle.shake.specs.Four.{with_plane}

-- what holds at each of five places
below_five : (P : ℕ → Type 0) → P 0 → P 1 → P 2 → P 3 → P 4 → (x : ℕ) → x < 5 → P x
below_five P p0 p1 p2 p3 p4 zero h = p0
below_five P p0 p1 p2 p3 p4 (suc zero) h = p1
below_five P p0 p1 p2 p3 p4 (suc (suc zero)) h = p2
below_five P p0 p1 p2 p3 p4 (suc (suc (suc zero))) h = p3
below_five P p0 p1 p2 p3 p4 (suc (suc (suc (suc zero)))) h = p4
below_five P p0 p1 p2 p3 p4 (suc (suc (suc (suc (suc n))))) h = absurd (omega arith)

abbrev moved : List ℕ → ℕ → ℕ → ℕ
moved a x y =
    let column = (x + 3 * y) % 5 in
    let from = column + 5 * x in
    rotate_left w64 (slice_index a from ⊕ slice_index (effects a) column) (slice_index offsets from)

pub moved_is : (a : List ℕ) (x y : ℕ) → x < 5 → y < 5 → moved a x y ≡ lane (pi (rho (theta a))) x y
unfolding theta rho pi
moved_is a x y hx hy =
    below_five (λ x. moved a x y ≡ lane (pi (rho (theta a))) x y)
    (below_five (λ y. moved a 0 y ≡ lane (pi (rho (theta a))) 0 y) refl refl refl refl refl y hy)
    (below_five (λ y. moved a 1 y ≡ lane (pi (rho (theta a))) 1 y) refl refl refl refl refl y hy)
    (below_five (λ y. moved a 2 y ≡ lane (pi (rho (theta a))) 2 y) refl refl refl refl refl y hy)
    (below_five (λ y. moved a 3 y ≡ lane (pi (rho (theta a))) 3 y) refl refl refl refl refl y hy)
    (below_five (λ y. moved a 4 y ≡ lane (pi (rho (theta a))) 4 y) refl refl refl refl refl y hy)
    x hx

abbrev mixed : List ℕ → ℕ → ℕ → ℕ
mixed a x y = lane a x y ⊕ bit_and (bit_not w64 (lane a (x + 1) y)) (lane a (x + 2) y)

pub plane_is : (a : List ℕ) (y : ℕ) → y < 5 → mixed a 0 y ∷ mixed a 1 y ∷ mixed a 2 y ∷ mixed a 3 y ∷ mixed a 4 y ∷ [] ≡ plane (chi a) y
unfolding chi
plane_is a y h = below_five (λ y. mixed a 0 y ∷ mixed a 1 y ∷ mixed a 2 y ∷ mixed a 3 y ∷ mixed a 4 y ∷ [] ≡ plane (chi a) y) refl refl refl refl refl y h

-- a state whose five planes are written is the one that has them
pub planes_written : (f : ℕ → ℕ) (a : List ℕ) (constant : ℕ) →
    with_plane (with_plane (with_plane (with_plane (with_plane (map f (range_with_len 0 25))
    0 ((slice_index (plane (chi a) 0) 0 ⊕ constant) ∷ slice_index (plane (chi a) 0) 1 ∷ slice_index (plane (chi a) 0) 2 ∷ slice_index (plane (chi a) 0) 3 ∷ slice_index (plane (chi a) 0) 4 ∷ []))
    1 (plane (chi a) 1)) 2 (plane (chi a) 2)) 3 (plane (chi a) 3)) 4 (plane (chi a) 4)
    ≡ iota (chi a) constant
unfolding chi iota
planes_written f a constant = refl
