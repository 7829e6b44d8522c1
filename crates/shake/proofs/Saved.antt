-- A hasher as bytes, and of them again.
use Rattle.std.proofs.Common.{◌≡◌, ℕ, zero, suc, ◌+◌, ◌-◌, ◌*◌, ◌^◌, ◌<◌, List, [], ◌∷◌, ◌++◌, length, take, drop, map, replicate, slice_index, get_or, sym, refl, ◌∙◌, arith, length-append, append_assoc}
use Rattle.std.proofs.lemmas.List.{take_at, drop_at, get_or-append-add, get_or-take, get_or-replicate}
use Rattle.std.proofs.lemmas.List.FromFn.{fill_by_all, length-map-range_with_len, get_or-map-range_with_len}
use Rattle.std.proofs.lemmas.Nat.{from_le_bytes-to_le_bytes_8}
use Rattle.std.specs.List.{range_with_len}
use Rattle.std.specs.Int.{w64, to_le_bytes}
use Rattle.std.specs.Int.Bits.{xor_zero_l}
use Rattle.shake.specs.Lengths.{length-bytes}
use Rattle.shake.specs.Keccak.{◌⊕◌}
use Rattle.shake.specs.Shake.{bytes, block_lane, add_block}
use Rattle.shake.specs.State.{IsAbsorbed, IsSaved, saved_lanes}
use Rattle.shake.proofs.BlockBytes.{get_at}

-- a lane of bytes that were made of lanes
pub block_lane-bytes : (a rest : List ℕ) (i : ℕ) → i < length a → get_or a i 0 < 2 ^ 64 → block_lane (bytes a ++ rest) i ≡ get_or a i 0
unfolding block_lane bytes
block_lane-bytes [] rest i below fits = absurd (omega arith)
block_lane-bytes (x ∷ a) rest zero below fits = from_le_bytes-to_le_bytes_8 x fits
block_lane-bytes (x ∷ a) rest (suc i) below fits =
    let at : (j : ℕ) → get_or (bytes (x ∷ a) ++ rest) (8 * suc i + j) 0 ≡ get_or (bytes a ++ rest) (8 * i + j) 0 =
    λ j. let e : 8 * suc i + j ≡ 8 + (8 * i + j) = omega arith in rw e (get_or-append-add (to_le_bytes w64 x) (bytes a ++ rest) (8 * i + j) 0) in
    let e : 8 * suc i ≡ 8 + 8 * i = omega arith in
    let first : get_or (bytes (x ∷ a) ++ rest) (8 * suc i) 0 ≡ get_or (bytes a ++ rest) (8 * i) 0 = rw e (get_or-append-add (to_le_bytes w64 x) (bytes a ++ rest) (8 * i) 0) in
    rw (first, at 1, at 2, at 3, at 4, at 5, at 6, at 7) (block_lane-bytes a rest i (omega arith) fits)

-- what is written of a hasher
pub is_saved : (rate used : ℕ) (lanes block m : List ℕ) → length lanes ≡ 25 → ((i : ℕ) → i < 25 → get_or lanes i 0 < 2 ^ 64) → length block ≡ rate → used < rate
    → IsAbsorbed rate lanes block used m → IsSaved rate (bytes lanes ++ (block ++ (used + 1) ∷ [])) m
unfolding saved_lanes
is_saved rate used lanes block m size fits whole below held =
    let long : length (bytes lanes) ≡ 200 = omega (arith, length-bytes lanes, size) in
    let counted : get_or (bytes lanes ++ (block ++ (used + 1) ∷ [])) (200 + rate) 0 ≡ used + 1 =
    rw (sym (append_assoc (bytes lanes) block ((used + 1) ∷ []))) (get_at (bytes lanes ++ block) [] (200 + rate) (used + 1) (omega (arith, length-append (bytes lanes) block, long, whole))) in
    let kept : take rate (drop 200 (bytes lanes ++ (block ++ (used + 1) ∷ []))) ≡ block =
    rw (drop_at (bytes lanes) (block ++ (used + 1) ∷ []) 200 long) (take_at block ((used + 1) ∷ []) rate whole) in
    let same : lanes ≡ map (block_lane (bytes lanes ++ (block ++ (used + 1) ∷ []))) (range_with_len 0 25) =
    fill_by_all (block_lane (bytes lanes ++ (block ++ (used + 1) ∷ []))) lanes 25 0 size (λ i below. sym (block_lane-bytes lanes (block ++ (used + 1) ∷ []) i (omega arith) (fits i below))) in
    let left : used + 1 - 1 ≡ used = omega arith in
    rw (counted, kept, left, ← same) ((omega arith, omega (arith, below)), held)

-- a lane is that of the first 200 bytes
block_lane-take : (saved : List ℕ) (i : ℕ) → i < 25 → block_lane (take 200 saved) i ≡ block_lane saved i
unfolding block_lane
block_lane-take saved i below =
    let at : (n : ℕ) → n < 200 → get_or (take 200 saved) n 0 ≡ get_or saved n 0 = λ n. get_or-take 200 saved n 0 in
    rw (
      at (8 * i) (omega arith),
      at (8 * i + 1) (omega arith),
      at (8 * i + 2) (omega arith),
      at (8 * i + 3) (omega arith),
      at (8 * i + 4) (omega arith),
      at (8 * i + 5) (omega arith),
      at (8 * i + 6) (omega arith),
      at (8 * i + 7) (omega arith),
    ) refl

-- what was added to no lanes
lanes_read : (saved : List ℕ) → add_block (replicate 25 0) (take 200 saved) ≡ saved_lanes saved
unfolding add_block saved_lanes
lanes_read saved =
    let summed : ℕ → ℕ = λ i. slice_index (replicate 25 0) i ⊕ block_lane (take 200 saved) i in
    fill_by_all (block_lane saved) (map summed (range_with_len 0 25)) 25 0 (length-map-range_with_len summed 0 25) (λ i below.
    get_or-map-range_with_len summed 0 25 i i 0 below (omega arith)
    ∙ rw (get_or-replicate {A = ℕ} 25 i 0 0 below, block_lane-take saved i below) (xor_zero_l (block_lane saved i)))

-- what is read of a saved hasher
pub restored : (rate used : ℕ) (saved lanes block m : List ℕ) → lanes ≡ add_block (replicate 25 0) (take 200 saved) → block ≡ take rate (drop 200 saved)
    → used ≡ get_or saved (200 + rate) 0 - 1 → IsSaved rate saved m → IsAbsorbed rate lanes block used m
restored rate used saved lanes block m e f g (_, held) = rw (e ∙ lanes_read saved, f, g) held
