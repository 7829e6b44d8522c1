-- Output given piece by piece.
use Rattle.std.proofs.Common.{◌≡◌, ℕ, zero, suc, ◌+◌, ◌*◌, ◌<◌, ◌≤◌, List, [], ◌∷◌, ◌++◌, length, take, drop, length-append, append-nil, append_assoc, arith, refl, sym, ◌∙◌, ap}
use Rattle.std.proofs.lemmas.List.{take_all, drop_all, drop-drop, drop-append-le, take-append-le, take-take, length-take-le}
use Rattle.std.proofs.Math.Nat.{le-mul_of_pos_right}
use Rattle.std.proofs.Math.Seq.{take-add, take-append-add}
use Rattle.std.specs.Int.{div_ceil}
use borrow.Rule.Slice.PartMut.{put_mid}
use Rattle.shake.specs.Keccak.{keccak_f}
use Rattle.shake.specs.Shake.{bytes, squeezed, shake, message_state}
use Rattle.shake.specs.State.{next_bytes}
use Rattle.shake.specs.Lengths.{length-bytes, length-squeezed, length-keccak_f, length-message_state, ceil_enough}
use Rattle.shake.proofs.BlockBytes.{take_run}

-- a prefix of a join, where the second part may be cut
pub take_join : (d : ℕ) (x y z : List ℕ) → take d y ≡ take d z → take d (x ++ y) ≡ take d (x ++ z)
take_join zero x y z e = refl
take_join (suc d) [] y z e = e
take_join (suc d) (b ∷ x) y z e =
    let shorter : take d y ≡ take d z = sym (take-take d (suc d) y (omega arith)) ∙ ap (take d) e ∙ take-take d (suc d) z (omega arith) in
    ap (λ (l : List ℕ). b ∷ l) (take_join d x y z shorter)

module _ (rate : ℕ) (some : 0 < rate) (small : rate ≤ 200) where
  -- more blocks begin with fewer
  squeezed_more : (a : List ℕ) → length a ≡ 25 → (n k : ℕ) → take (n * rate) (squeezed rate a (n + k)) ≡ squeezed rate a n
  unfolding squeezed
  squeezed_more a size zero k = let none : 0 * rate ≡ 0 = omega arith in rw none refl
  squeezed_more a size (suc n) k =
      let block = take rate (bytes a) in
      let fits : length block ≡ rate = length-take-le rate (bytes a) (omega (arith, length-bytes a, size, small)) in
      let later = squeezed rate (keccak_f a) (n + k) in
      let e : suc n * rate ≡ length block + n * rate = omega (arith, fits) in
      let j : suc n + k ≡ suc (n + k) = omega arith in
      rw (e, j) (take-append-add block later (n * rate) ∙ ap (λ l. block ++ l) (squeezed_more (keccak_f a) (length-keccak_f a) n k))

  -- enough blocks have the same first d bytes
  pub squeezed_enough : (a : List ℕ) → length a ≡ 25 → (d n k : ℕ) → d ≤ n * rate → d ≤ k * rate
      → take d (squeezed rate a n) ≡ take d (squeezed rate a k)
  squeezed_enough a size d n k h j =
      let of_more : (n k : ℕ) → d ≤ n * rate → take d (squeezed rate a n) ≡ take d (squeezed rate a (n + k)) =
      λ n k h. ap (take d) (sym (squeezed_more a size n k)) ∙ take-take d (n * rate) (squeezed rate a (n + k)) h in
      let e : n + k ≡ k + n = omega arith in
      of_more n k h ∙ ap (λ i. take d (squeezed rate a i)) e ∙ sym (of_more k n j)

  -- d blocks are enough
  many : (d : ℕ) → d ≤ d * rate
  many d = le-mul_of_pos_right d some

  -- where no block is in hand, the output of the state
  pub next_bytes-shake : (lanes block m : List ℕ) (given : ℕ) → length block ≤ given → keccak_f lanes ≡ message_state rate m
      → (d : ℕ) → next_bytes rate lanes block given d ≡ shake rate m d
  unfolding next_bytes shake
  next_bytes-shake lanes block m given spent e d =
      rw (drop_all given block spent, e) (squeezed_enough (message_state rate m) (length-message_state rate m) d d (div_ceil d rate) (many d) (ceil_enough rate d some))

  -- the next block is taken in hand
  pub next_bytes-made : (lanes block : List ℕ) (given : ℕ) → length block ≤ given → (d : ℕ)
      → next_bytes rate lanes block given d ≡ next_bytes rate (keccak_f lanes) (take rate (bytes (keccak_f lanes))) 0 d
  unfolding next_bytes squeezed
  next_bytes-made lanes block given spent d =
      rw (drop_all given block spent) (squeezed_enough (keccak_f lanes) (length-keccak_f lanes) d d (suc d) (many d) (omega (arith, many d)))

  -- a run of bytes of the block in hand is given
  pub next_bytes-run : (lanes block : List ℕ) (given count : ℕ) → count ≤ length (drop given block) → (d : ℕ)
      → next_bytes rate lanes block given (count + d) ≡ take count (drop given block) ++ next_bytes rate lanes block (given + count) d
  unfolding next_bytes
  next_bytes-run lanes block given count fits d =
      let a = keccak_f lanes in
      let hand = drop given block in
      let enough = squeezed_enough a (length-keccak_f lanes) d (count + d) d (omega (arith, many (count + d))) (many d) in
      take-add count d (hand ++ squeezed rate a (count + d))
      ∙ rw (take-append-le count hand (squeezed rate a (count + d)) fits, drop-append-le count hand (squeezed rate a (count + d)) fits, drop-drop count given block)
      (ap (λ l. take count hand ++ l) (take_join d (drop (given + count) block) (squeezed rate a (count + d)) (squeezed rate a d) enough))

-- a run of `count` bytes, written over what followed the first `filled` bytes: where S gave the first and then T, and T gives
-- the run and then U, S has given the first and the run
pub filled_more : (out run : List ℕ) (S T U : ℕ → List ℕ) (filled k count : ℕ) → filled ≤ length out → count ≤ length run
    → ((d : ℕ) → S (filled + d) ≡ take filled out ++ T d) → ((d : ℕ) → T (count + d) ≡ take count run ++ U d)
    → (d : ℕ) → S (filled + count + d) ≡ take (filled + count) (put_mid filled k out run) ++ U d
filled_more out run S T U filled k count f n first next d =
    let e : filled + count + d ≡ filled + (count + d) = omega arith in
    rw (e, first (count + d), next d, take_run out run filled k count f n) (sym (append_assoc (take filled out) (take count run) (U d)))

-- where all of `out` is written, S has given it
pub filled_all : (out : List ℕ) (S T : ℕ → List ℕ) (filled n : ℕ) → filled ≡ length out → n ≡ filled
    → ((d : ℕ) → S (filled + d) ≡ take filled out ++ T d) → (d : ℕ) → S (n + d) ≡ out ++ T d
filled_all out S T filled n e f first d = rw f (first d ∙ ap (λ l. l ++ T d) (take_all filled out (omega (arith, e))))

pub next_bytes-none : (rate : ℕ) (lanes block : List ℕ) (given : ℕ) → next_bytes rate lanes block given 0 ≡ []
unfolding next_bytes
next_bytes-none rate lanes block given = refl

pub filled_only : (out : List ℕ) (S T : ℕ → List ℕ) (filled n : ℕ) → filled ≡ length out → n ≡ filled
    → ((d : ℕ) → S (filled + d) ≡ take filled out ++ T d) → T 0 ≡ [] → S n ≡ out
filled_only out S T filled n e f first none =
    let more : n ≡ filled + 0 = omega (arith, f) in
    rw more (first 0 ∙ rw (none, append-nil (take filled out)) (take_all filled out (omega (arith, e))))

-- d bytes are d bytes
pub length-next_bytes : (rate : ℕ) → 0 < rate → rate ≤ 200 → (lanes block : List ℕ) (given d : ℕ) → length (next_bytes rate lanes block given d) ≡ d
unfolding next_bytes
length-next_bytes rate some small lanes block given d =
    let hand = drop given block in
    let later = squeezed rate (keccak_f lanes) d in
    let size = length-squeezed rate small (keccak_f lanes) (length-keccak_f lanes) d in
    length-take-le d (hand ++ later) (omega (arith, length-append hand later, size, le-mul_of_pos_right d some))
