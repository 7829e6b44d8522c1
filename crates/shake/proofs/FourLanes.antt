-- Four states side by side, of which a lane or a plane is written.
use Rattle.std.proofs.Common.{◌≡◌, ◌≢◌, ℕ, ◌<◌, List, [], length, map, set, get_or, slice_index_or, slice_set, sym, ap, ◌∙◌, inl, inr, arith}
use Rattle.std.specs.List.{range_with_len}
use Rattle.std.proofs.Math.Seq.{map-set_same}
use Rattle.std.proofs.lemmas.Bool.{cases_eq}
use Rattle.std.proofs.lemmas.List.{length-map, length-set, get_or-map, get_or-replicate, get_or-set_same, get_or-set_other}
use Rattle.std.proofs.lemmas.List.FromFn.{fill_by_all, get_or-map-range_with_len, length-map-range_with_len}
use Rattle.shake.specs.Four.{AreFour, state_at}

pub four_length : (a : List (List ℕ)) → AreFour a → length a ≡ 25
four_length a four = sym (length-map a length) ∙ ap length four

pub four_lanes : (a : List (List ℕ)) (i : ℕ) → AreFour a → i < 25 → length (get_or a i []) ≡ 4
four_lanes a i four h =
    sym (get_or-map length a i [] 0 (omega (arith, h, four_length a four))) ∙ ap (λ l. get_or l i 0) four ∙ get_or-replicate 25 i 4 0 h

-- lane j of vector i is x
abbrev pub written : List (List ℕ) → ℕ → ℕ → ℕ → List (List ℕ)
written a i j x = slice_set a i (slice_set (slice_index_or a i []) j x)

pub written_four : (a : List (List ℕ)) (i j x : ℕ) → AreFour a → AreFour (written a i j x)
written_four a i j x four = map-set_same length a i (set (get_or a i []) j x) [] (length-set (get_or a i []) j x) ∙ four

-- the state that is written
pub written_state : (a : List (List ℕ)) (i j x : ℕ) → AreFour a → i < 25 → j < 4 → state_at (written a i j x) j ≡ slice_set (state_at a j) i x
written_state a i j x four hi hj =
    let vector = get_or a i [] in
    let at = λ (k : ℕ). get_or (get_or a k []) j 0 in
    let after = λ (k : ℕ). get_or (get_or (written a i j x) k []) j 0 in
    let size = length-set (state_at a j) i x ∙ length-map-range_with_len at 0 25 in
    sym (fill_by_all after (set (state_at a j) i x) 25 0 size (λ k h.
    elim (cases_eq k i) [
      | inl same ↦
          rw same (get_or-set_same (state_at a j) i x 0 (omega (arith, hi, length-map-range_with_len at 0 25))
          ∙ sym (ap (λ v. get_or v j 0) (get_or-set_same a i (set vector j x) [] (omega (arith, hi, four_length a four)))
          ∙ get_or-set_same vector j x 0 (omega (arith, hj, four_lanes a i four hi))))
      | inr other ↦
          get_or-set_other (state_at a j) i k x 0 other
          ∙ get_or-map-range_with_len at 0 25 k k 0 h (omega arith)
          ∙ ap (λ v. get_or v j 0) (sym (get_or-set_other a i k (set vector j x) [] other))
    ]))

-- and the others
pub written_others : (a : List (List ℕ)) (i j x k : ℕ) → AreFour a → i < 25 → k ≢ j → state_at (written a i j x) k ≡ state_at a k
written_others a i j x k four hi off =
    let vector = get_or a i [] in
    let at = λ (l : ℕ). get_or (get_or a l []) k 0 in
    let after = λ (l : ℕ). get_or (get_or (written a i j x) l []) k 0 in
    sym (fill_by_all after (map at (range_with_len 0 25)) 25 0 (length-map-range_with_len at 0 25) (λ l h.
    get_or-map-range_with_len at 0 25 l l 0 h (omega arith)
    ∙ elim (cases_eq l i) [
      | inl same ↦
          rw same (sym (ap (λ v. get_or v k 0) (get_or-set_same a i (set vector j x) [] (omega (arith, hi, four_length a four)))
          ∙ get_or-set_other vector j k x 0 off))
      | inr other ↦ ap (λ v. get_or v k 0) (sym (get_or-set_other a i l (set vector j x) [] other))
    ]))
