-- How many bytes the output has: cited by laws of XOFs; nobody has to believe it.
use Rattle.std.specs.Prelude.{◌≡◌, ◌<◌, ◌≤◌, ℕ, zero, suc, ◌*◌, ◌%◌, min, List, [], ◌∷◌, length, take}
use Rattle.std.specs.List.{flat_map}
use Rattle.std.specs.Int.{w64, to_le_bytes, div_ceil}
use Rattle.std.proofs.Common.{inl, inr, refl, ap, ◌∙◌, arith, length-append, slice_index}
use Rattle.std.proofs.lemmas.List.{length-take-le}
use Rattle.std.proofs.lemmas.Bool.{cases_lt}
use Rattle.std.proofs.lemmas.Nat.{div-add-mod'}
use Rattle.std.proofs.Math.Nat.{mod-lt}
use Rattle.shake.specs.Keccak.{chi, iota, round, rounds, round_constants, keccak_f}
use Rattle.shake.specs.Shake.{bytes, squeezed, absorbed, message_state, shake}

length-round : (a : List ℕ) (constant : ℕ) → length (round a constant) ≡ 25
unfolding chi iota
length-round a constant = refl

last_round : (a : List ℕ) → keccak_f a ≡ round (rounds a 23) (slice_index round_constants 23)
unfolding rounds
last_round a = refl

-- a state has 25 lanes
pub length-keccak_f : (a : List ℕ) → length (keccak_f a) ≡ 25
length-keccak_f a = ap length (last_round a) ∙ length-round (rounds a 23) (slice_index round_constants 23)

-- and eight bytes a lane
pub length-bytes : (a : List ℕ) → length (bytes a) ≡ 8 * length a
unfolding bytes
length-bytes [] = refl
length-bytes (x ∷ a) = omega (arith, length-append (to_le_bytes w64 x) (flat_map (to_le_bytes w64) a), length-bytes a)

pub length-squeezed : (rate : ℕ) → rate ≤ 200 → (a : List ℕ) → length a ≡ 25 → (n : ℕ) → length (squeezed rate a n) ≡ n * rate
unfolding squeezed
length-squeezed rate small a size zero = omega arith
length-squeezed rate small a size (suc n) =
    let block = length-take-le rate (bytes a) (omega (arith, length-bytes a, size, small)) in
    let later = length-squeezed rate small (keccak_f a) (length-keccak_f a) n in
    omega (arith, length-append (take rate (bytes a)) (squeezed rate (keccak_f a) n), block, later)

length-absorbed : (rate : ℕ) (p : List ℕ) (n : ℕ) → length (absorbed rate p n) ≡ 25
unfolding absorbed
length-absorbed rate p zero = refl
length-absorbed rate p (suc n) = length-keccak_f _

pub length-message_state : (rate : ℕ) (m : List ℕ) → length (message_state rate m) ≡ 25
unfolding message_state
length-message_state rate m = length-absorbed rate _ _

-- enough blocks for d bytes
pub ceil_enough : (rate d : ℕ) → 0 < rate → d ≤ div_ceil d rate * rate
ceil_enough rate d some =
    let parts = div-add-mod' d rate in
    let below : d % rate < rate = mod-lt d some in
    elim (cases_lt 0 (d % rate)) [
      | inl more ↦
          let one : min 1 (d % rate) ≡ 1 = omega (arith, more) in
          rw one (omega (arith, parts, below))
      | inr none ↦
          let no : min 1 (d % rate) ≡ 0 = omega (arith, none) in
          rw no (omega (arith, parts, none))
    ]

-- d bytes are d bytes
pub length-shake : (rate : ℕ) → 0 < rate → rate ≤ 200 → (m : List ℕ) (d : ℕ) → length (shake rate m d) ≡ d
unfolding shake
length-shake rate some small m d =
    let size = length-squeezed rate small (message_state rate m) (length-message_state rate m) (div_ceil d rate) in
    length-take-le d (squeezed rate (message_state rate m) (div_ceil d rate)) (omega (arith, size, ceil_enough rate d some))
