-- Reading an XOF in counter mode block by block.
use Rattle.std.proofs.Common.{◌≡◌, inl, inr, ℕ, zero, suc, ◌+◌, ◌-◌, ◌*◌, ◌<◌, ◌≤◌, List, ◌++◌, length, take, drop, length-append, length-drop, arith, sym, ◌∙◌, ap, append_assoc, append-nil}
use Rattle.std.proofs.lemmas.Bool.{cases_lt}
use Rattle.std.proofs.lemmas.List.{drop_all, drop_at, drop-drop, drop-append-le, take-append-le, take_at, length-take-le}
use Rattle.std.proofs.Math.Seq.{take-add}
use borrow.Rule.Slice.PartMut.{put_mid, post_of}
use Rattle.fips204_base.specs.Streams.{counter_block, counter_blocks}
use Rattle.fips204_base.specs.FrontLengths.{length-counter_block, length-counter_blocks}
use Rattle.std.proofs.lemmas.Int.{ints}
use Rattle.std.proofs.lemmas.Grind.{common_steps}

-- a hash whose digests have `size` bytes
module _ (hash : List ℕ → List ℕ) (size : ℕ) (sized : (message : List ℕ) → length (hash message) ≡ size) (seed : List ℕ) where
  -- what is left from block i on begins with block i
  pub next_block : (n i : ℕ) → i < n →
      drop (i * size) (counter_blocks hash seed n) ≡ counter_block hash seed i ++ drop ((i + 1) * size) (counter_blocks hash seed n)
  unfolding counter_blocks
  next_block zero i h = absurd (omega arith)
  next_block (suc n) i h =
      let before = length-counter_blocks hash size sized seed n in
      let last = length-counter_block hash size sized seed n in
      let earlier = counter_blocks hash seed n in
      let block = counter_block hash seed n in
      let both = length-append earlier block in
      elim (cases_lt i n) [
        | inl lt ↦
            let k : ℕ = n - (i + 1) in
            let e : n ≡ i + 1 + k = omega arith in
            let room : (i + 1) * size ≤ length earlier = rw (before, e) (omega arith) in
            drop-append-le (i * size) earlier block (omega (arith, room))
            ∙ ap (λ l. l ++ block) (next_block n i lt)
            ∙ append_assoc (counter_block hash seed i) (drop ((i + 1) * size) earlier) block
            ∙ ap (λ l. counter_block hash seed i ++ l) (sym (drop-append-le ((i + 1) * size) earlier block room))
        | inr ge ↦
            let e : i ≡ n = omega arith in
            let none = drop_all ((n + 1) * size) (earlier ++ block) (omega (arith, before, last, both)) in
            rw e (drop_at earlier block (n * size) before ∙ rw none (sym (append-nil block)))
      ]

-- the same over `count` blocks, where the list `left` is still to come
module _ (hash : List ℕ → List ℕ) (size : ℕ) (sized : (message : List ℕ) → length (hash message) ≡ size) (seed : List ℕ) (count : ℕ) (left : List ℕ) where
  -- the bytes of `block` after the first `given`, and the blocks from `next` on, are what is left
  abbrev pub InHand : ℕ → List ℕ → ℕ → Type 0
  InHand next block given = (given ≤ size) × (next ≤ count) × (length block ≡ size)
      × (drop given block ++ drop (next * size) (counter_blocks hash seed count) ≡ left)

  pub InHand-left : (next : ℕ) (block : List ℕ) (given : ℕ) → InHand next block given → size - given + (count - next) * size ≡ length left
  InHand-left next block given hand =
      let k : ℕ = count - next in
      let e : count ≡ next + k = omega (arith, hand.1) in
      let blocks = counter_blocks hash seed count in
      let whole = length-append (drop given block) (drop (next * size) blocks) in
      let first = length-drop given block in
      let rest = length-drop (next * size) blocks in
      let total : length blocks ≡ (next + k) * size = length-counter_blocks hash size sized seed count ∙ ap (λ n. n * size) e in
      let same = ap length hand.3 in
      omega (arith, whole, first, rest, total, same, hand.0, hand.2)

  -- the next block is taken in hand where none is
  pub InHand-made : (next : ℕ) (block : List ℕ) (given : ℕ) → 0 < length left → given ≡ size → InHand next block given →
      InHand (next + 1) (counter_block hash seed next) 0
  InHand-made next block given h spent hand =
      let none = drop_all given block (omega (arith, hand.2)) in
      let below : next < count = elim (cases_lt next count) [
        | inl lt ↦ lt
        | inr ge ↦
            let at_end : count - next ≡ 0 = omega arith in
            let none_left = ap (λ n. n * size) at_end in
            let total = InHand-left next block given hand in
            absurd (omega (arith, none_left, total, spent, h))
      ] in (
        omega arith,
        omega (arith, below),
        length-counter_block hash size sized seed next,
        sym (next_block hash size sized seed count next below) ∙ rw none at hand.3,
      )

  -- blocks have bytes where something is left
  pub InHand-size : (next : ℕ) (block : List ℕ) (given : ℕ) → 0 < length left → InHand next block given → 0 < size
  InHand-size next block given h hand = elim (cases_lt 0 size) [
    | inl some ↦ some
    | inr none ↦
        let zero : size ≡ 0 = omega arith in
        let total = InHand-left next block given hand in
        let nothing = ap (λ n. (count - next) * n) zero in
        absurd (omega (arith, total, nothing, zero, h))
  ]

  -- so there are no more blocks than bytes
  pub InHand-few : (next : ℕ) (block : List ℕ) (given : ℕ) → 0 < length left → given ≡ size → InHand next block given → next + 1 ≤ count * size
  InHand-few next block given h spent hand =
      let made = InHand-made next block given h spent hand in
      let some = InHand-size next block given h hand in
      let k : ℕ = size - 1 in
      let e : size ≡ k + 1 = omega (arith, some) in
      let more = ap (λ n. count * n) e in
      omega (arith, made.1, more)

  -- `run` bytes of the block in hand are the next ones of what is left
  abbrev pub IsRun : ℕ → List ℕ → ℕ → ℕ → Type 0
  IsRun next block given run = (given + run ≤ size) × (take run (drop given block) ≡ take run left)
      × (drop (given + run) block ++ drop (next * size) (counter_blocks hash seed count) ≡ drop run left)

  pub InHand-run : (next : ℕ) (block : List ℕ) (given run : ℕ) → InHand next block given → run ≤ length (drop given block) → IsRun next block given run
  InHand-run next block given run hand fits =
      let room = length-drop given block in
      let later = drop (next * size) (counter_blocks hash seed count) in (
        omega (arith, room, fits, hand.2, hand.0),
        sym (take-append-le run (drop given block) later fits) ∙ ap (take run) hand.3,
        ap (λ l. l ++ later) (sym (drop-drop run given block)) ∙ sym (drop-append-le run (drop given block) later fits) ∙ ap (drop run) hand.3,
      )

-- a run of `count` bytes, then `tail`, written over what followed the first `filled` bytes
pub filled_more : (out whole left part tail rest : List ℕ) (filled count : ℕ) → filled ≤ length out → filled + count ≤ length out → length out ≤ length whole →
    length part ≡ length out - filled → take filled out ≡ take filled whole → left ≡ drop filled whole →
    part ≡ take count left ++ tail → rest ≡ drop count left →
    (filled + count ≤ length (put_mid filled (length out - filled) out part))
    × (take (filled + count) (put_mid filled (length out - filled) out part) ≡ take (filled + count) whole)
    × (rest ≡ drop (filled + count) whole)
filled_more out whole left part tail rest filled count f n room size before at written dropped = grind (arith, ints, common_steps, length-take-le, post_of, length-drop, length-append, take_at, take-add, drop_at, take-append-le, drop-drop)
