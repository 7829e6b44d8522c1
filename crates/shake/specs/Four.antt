-- Four states side by side: 25 times one lane of each.
use Rattle.std.specs.Prelude.{◌≡◌, ℕ, List, [], ◌∷◌, length, map, replicate, ◌+◌, ◌*◌, slice_index, slice_index_or, slice_set}
use Rattle.std.specs.List.{range_with_len}

-- 25 times four lanes
abbrev pub AreFour : List (List ℕ) → Type 0
AreFour a = map length a ≡ replicate 25 4

-- state j of the four
abbrev pub state_at : List (List ℕ) → ℕ → List ℕ
state_at a j = map (λ i. slice_index (slice_index_or a i []) j) (range_with_len 0 25)

-- four states, side by side
abbrev pub beside : List ℕ → List ℕ → List ℕ → List ℕ → List (List ℕ)
beside a b c d = map (λ i. slice_index a i ∷ slice_index b i ∷ slice_index c i ∷ slice_index d i ∷ []) (range_with_len 0 25)

-- a state with these lanes (0, y) to (4, y)
abbrev pub with_plane : List ℕ → ℕ → List ℕ → List ℕ
with_plane a y lanes =
    slice_set (slice_set (slice_set (slice_set (slice_set a (5 * y) (slice_index lanes 0)) (5 * y + 1) (slice_index lanes 1))
    (5 * y + 2) (slice_index lanes 2)) (5 * y + 3) (slice_index lanes 3)) (5 * y + 4) (slice_index lanes 4)
