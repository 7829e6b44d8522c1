-- Lemmas on the outputs of XOFs in counter mode: cited by no public clause of `fips204`; nobody has to believe it.
use Rattle.std.proofs.Common.{◌≡◌, ◌≤◌, ◌+◌, ◌-◌, ℕ, zero, suc, ◌*◌, List, ◌++◌, length, length-append, length-take, ap, subst, ◌∙◌, arith}
use Rattle.std.proofs.lemmas.List.{take_all, take-append-le}
use Rattle.std.specs.Int.{w32, to_le_bytes}
use Rattle.sha2.specs.Sha256.{sha256}
use Rattle.sha2.specs.Sha512.{sha512}
use Rattle.sha2.proofs.Facts256.{length-sha256}
use Rattle.sha2.proofs.Facts512.{length-sha512}
use Rattle.fips204_base.specs.Streams.{counter_block, counter_blocks, sha256_front, sha512_front, sha256_long_front, sha512_long_front, IsPrefix}

-- a hash whose digests have `size` bytes
module _ (hash : List ℕ → List ℕ) (size : ℕ) (sized : (message : List ℕ) → length (hash message) ≡ size) (seed : List ℕ) where
  -- a block is as long as a digest
  pub length-counter_block : (i : ℕ) → length (counter_block hash seed i) ≡ size
  unfolding counter_block
  length-counter_block i = sized (seed ++ to_le_bytes w32 i)

  -- n blocks are n times as long
  pub length-counter_blocks : (n : ℕ) → length (counter_blocks hash seed n) ≡ n * size
  unfolding counter_blocks
  length-counter_blocks zero = omega arith
  length-counter_blocks (suc n) =
      let before = length-counter_blocks n in
      let last = length-counter_block n in
      let both = length-append (counter_blocks hash seed n) (counter_block hash seed n) in
      omega (arith, before, last, both)

pub length-sha256_front : (input : List ℕ) → length (sha256_front input) ≡ 4096
length-sha256_front input = length-counter_blocks sha256 32 length-sha256 (sha256 input) 128

pub length-sha256_long_front : (input : List ℕ) → length (sha256_long_front input) ≡ 16384
length-sha256_long_front input = length-counter_blocks sha256 32 length-sha256 (sha256 input) 512

pub length-sha512_front : (input : List ℕ) → length (sha512_front input) ≡ 4096
length-sha512_front input = length-counter_blocks sha512 64 length-sha512 (sha512 input) 64

pub length-sha512_long_front : (input : List ℕ) → length (sha512_long_front input) ≡ 16384
length-sha512_long_front input = length-counter_blocks sha512 64 length-sha512 (sha512 input) 256

-- the first blocks are a prefix of themselves with more
counter_blocks-more : (hash : List ℕ → List ℕ) (seed : List ℕ) (n extra : ℕ) → IsPrefix (counter_blocks hash seed n) (counter_blocks hash seed (n + extra))
unfolding counter_blocks
counter_blocks-more hash seed n zero = let same : n + 0 ≡ n = omega arith in rw same (take_all (length (counter_blocks hash seed n)) (counter_blocks hash seed n) (omega arith))
counter_blocks-more hash seed n (suc extra) =
    let next : n + suc extra ≡ suc (n + extra) = omega arith in
    let before = counter_blocks-more hash seed n extra in
    let enough : length (counter_blocks hash seed n) ≤ length (counter_blocks hash seed (n + extra)) = omega (arith, ap length before, length-take (length (counter_blocks hash seed n)) (counter_blocks hash seed (n + extra))) in
    rw next (take-append-le (length (counter_blocks hash seed n)) (counter_blocks hash seed (n + extra)) (counter_block hash seed (n + extra)) enough ∙ before)

-- so fewer blocks are a prefix of more
pub counter_blocks-prefix : (hash : List ℕ → List ℕ) (seed : List ℕ) (n m : ℕ) → n ≤ m → IsPrefix (counter_blocks hash seed n) (counter_blocks hash seed m)
counter_blocks-prefix hash seed n m l =
    let whole : n + (m - n) ≡ m = omega (arith, l) in
    subst (λ k. IsPrefix (counter_blocks hash seed n) (counter_blocks hash seed k)) whole (counter_blocks-more hash seed n (m - n))
