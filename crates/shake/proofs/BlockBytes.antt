-- The bytes of blocks and of states.
use Rattle.std.proofs.Common.{◌≡◌, ℕ, zero, suc, ◌+◌, ◌-◌, ◌*◌, ◌<◌, ◌≤◌, List, [], ◌∷◌, ◌++◌, length, take, drop, get_or, replicate, refl, sym, ap, ◌∙◌, arith, length-append, length-drop, append_assoc, append-nil, slice_set, bit_or}
use Rattle.std.proofs.lemmas.List.{get_or_past, drop_all, take-take, length-take-le, length-replicate}
use Rattle.std.proofs.lemmas.Slice.{take-put_mid}
use Rattle.std.proofs.Math.Seq.{take-append-add, set-append_seam}
use Rattle.std.specs.List.{flat_map}
use Rattle.std.specs.Int.{w64, to_le_bytes}
use Rattle.shake.specs.Shake.{bytes, block_lane, padding}
use borrow.Rule.Slice.PartMut.{put_mid, post_of}

-- what is written of a run over what followed the first `used` bytes
pub take_run : (block run : List ℕ) (used k count : ℕ) → used ≤ length block → count ≤ length run
    → take (used + count) (put_mid used k block run) ≡ take used block ++ take count run
take_run block run used k count f n =
    let front = length-take-le used block f in
    let e : used + count ≡ length (take used block) + count = omega (arith, front) in
    sym (take-take (used + count) (used + length run) (put_mid used k block run) (omega (arith, n)))
    ∙ ap (take (used + count)) (take-put_mid used k block run (used + length run) refl f)
    ∙ ap (λ i. take i (take used block ++ run)) e
    ∙ take-append-add (take used block) run count

-- a lane past the end of a block is 0
pub block_lane-past : (p : List ℕ) (i : ℕ) → length p ≤ 8 * i → block_lane p i ≡ 0
unfolding block_lane
block_lane-past p i past = rw (
  get_or_past p (8 * i) 0 past,
  get_or_past p (8 * i + 1) 0 (omega arith),
  get_or_past p (8 * i + 2) 0 (omega arith),
  get_or_past p (8 * i + 3) 0 (omega arith),
  get_or_past p (8 * i + 4) 0 (omega arith),
  get_or_past p (8 * i + 5) 0 (omega arith),
  get_or_past p (8 * i + 6) 0 (omega arith),
  get_or_past p (8 * i + 7) 0 (omega arith),
) refl

-- one lane more
pub bytes_more : (a : List ℕ) (i : ℕ) → i < length a → take (8 * (i + 1)) (bytes a) ≡ take (8 * i) (bytes a) ++ to_le_bytes w64 (get_or a i 0)
unfolding bytes
bytes_more [] i below = absurd (omega arith)
bytes_more (x ∷ a) zero below = refl
bytes_more (x ∷ a) (suc i) below =
    let first = to_le_bytes w64 x in
    let rest = flat_map (to_le_bytes w64) a in
    let e : 8 * (suc i + 1) ≡ 8 + 8 * (i + 1) = omega arith in
    let f : 8 * suc i ≡ 8 + 8 * i = omega arith in
    rw (e, f) (
    take-append-add first rest (8 * (i + 1))
    ∙ ap (λ l. first ++ l) (bytes_more a i (omega arith))
    ∙ sym (append_assoc first (take (8 * i) rest) (to_le_bytes w64 (get_or a i 0)))
    ∙ ap (λ l. l ++ to_le_bytes w64 (get_or a i 0)) (sym (take-append-add first rest (8 * i)))
    )

-- a lane written after the lanes before it
pub bytes_written : (out a ys : List ℕ) (i k : ℕ) → take (8 * i) out ≡ take (8 * i) (bytes a) → 8 * i ≤ length out → i < length a
    → ys ≡ to_le_bytes w64 (get_or a i 0) → take (8 * (i + 1)) (put_mid (8 * i) k out ys) ≡ take (8 * (i + 1)) (bytes a)
bytes_written out a ys i k before fits below e =
    let size : length ys ≡ 8 = rw e refl in
    take-put_mid (8 * i) k out ys (8 * (i + 1)) (omega arith) fits
    ∙ rw (before, e) refl ∙ sym (bytes_more a i below)

pub length-padding : (q : ℕ) → length (padding q) ≡ q
unfolding padding
length-padding zero = refl
length-padding (suc zero) = refl
length-padding (suc (suc q)) = omega (arith, length-append {A = ℕ} (replicate q 0) (0x80 ∷ []), length-replicate {A = ℕ} q 0)

-- the byte after xs, written and read
set_at : (xs zs : List ℕ) (u x y : ℕ) → length xs ≡ u → slice_set (xs ++ x ∷ zs) u y ≡ xs ++ y ∷ zs
set_at xs zs u x y e = rw (← e) (set-append_seam xs x zs y)

pub get_at : (xs zs : List ℕ) (u x : ℕ) → length xs ≡ u → get_or (xs ++ x ∷ zs) u 0 ≡ x
get_at [] zs u x e = rw (← e) refl
get_at (y ∷ xs) zs u x e = rw (← e) (get_at xs zs (length xs) x refl)

replicate_last : (q : ℕ) → replicate {A = ℕ} (suc q) 0 ≡ replicate {A = ℕ} q 0 ++ 0 ∷ []
replicate_last zero = refl
replicate_last (suc q) = ap (λ (l : List ℕ). 0 ∷ l) (replicate_last q)

padded_end : (xs : List ℕ) (u q n : ℕ) → length xs ≡ u → n ≡ u + q
    → slice_set (xs ++ 31 ∷ replicate q 0) n (bit_or (get_or (xs ++ 31 ∷ replicate q 0) n 0) 128) ≡ xs ++ padding (suc q)
unfolding padding
padded_end xs u zero n e f =
    let at : length xs ≡ n = omega (arith, e, f) in
    rw (get_at xs [] n 31 at) (set_at xs [] n 31 0x9F at)
padded_end xs u (suc q) n e f =
    let whole : xs ++ 31 ∷ replicate (suc q) 0 ≡ (xs ++ 31 ∷ replicate q 0) ++ 0 ∷ [] =
    rw replicate_last (sym (append_assoc xs (31 ∷ replicate q 0) (0 ∷ []))) in
    let size : length (xs ++ 31 ∷ replicate q 0) ≡ n = omega (arith, length-append {A = ℕ} xs (31 ∷ replicate q 0), length-replicate {A = ℕ} q 0) in
    rw (whole, get_at (xs ++ 31 ∷ replicate q 0) [] n 0 size) (set_at (xs ++ 31 ∷ replicate q 0) [] n 0 0x80 size ∙ append_assoc xs (31 ∷ replicate q 0) (0x80 ∷ []))

-- a block in which zeros, then the first byte of the padding and then the last one are written after u bytes
pub padded_block : (xs zs : List ℕ) (u k : ℕ) → u < length xs → k ≡ length xs - u → zs ≡ replicate k 0
    → slice_set (slice_set (put_mid u k xs zs) u 31) (length xs - 1) (bit_or (get_or (slice_set (put_mid u k xs zs) u 31) (length xs - 1) 0) 128)
    ≡ take u xs ++ padding k
unfolding padding
padded_block xs zs u zero below e z = absurd (omega arith)
padded_block xs zs u (suc q) below e z =
    let front = length-take-le u xs (omega arith) in
    let none : post_of u (suc q) xs ≡ [] = drop_all (suc q) (drop u xs) (omega (arith, length-drop u xs)) in
    let written : slice_set (put_mid u (suc q) xs zs) u 31 ≡ take u xs ++ 31 ∷ replicate q 0 =
    rw (z, none, append-nil (replicate {A = ℕ} q 0)) (set_at (take u xs) (replicate q 0) u 0 31 front) in
    rw written (padded_end (take u xs) u q (length xs - 1) front (omega arith))
