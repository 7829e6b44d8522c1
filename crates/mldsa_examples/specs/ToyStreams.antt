-- Two XOFs over the toy hash, for an example.
use Rattle.std.specs.Prelude.{◌≡◌, ℕ, ◌+◌, ◌*◌, ◌/◌, ◌%◌, List, length, map}
use Rattle.std.specs.List.{range_with_len}
use Rattle.std.proofs.lemmas.List.FromFn.{length-map-range_with_len}
use Rattle.fips204_base.specs.Streams.{counter_blocks}
use Rattle.fips204_base.specs.FrontLengths.{length-counter_blocks}
use Rattle.mldsa_examples.specs.ToyHash.{toy_state, toy_hash, length-toy_hash}

-- the output in counter mode: 1024 blocks of four bytes over the digest of the input
abbrev pub counter_front : List ℕ → List ℕ
counter_front input = counter_blocks toy_hash (toy_hash input) 1024

pub length-counter_front : (input : List ℕ) → length (counter_front input) ≡ 4096
length-counter_front input = length-counter_blocks toy_hash 4 length-toy_hash (toy_hash input) 1024

-- the byte at a place of the short output, from the number of the input
abbrev pub spread_byte : ℕ → ℕ → ℕ
spread_byte state place = (state + place) * 48271 % 2147483647 / 256 % 256

-- the short output: so many bytes as an XOF must have, each from the number of the input and its place
unfoldable pub spread_front : List ℕ → List ℕ
spread_front input = map (spread_byte (toy_state input)) (range_with_len 0 4096)

pub length-spread_front : (input : List ℕ) → length (spread_front input) ≡ 4096
unfolding spread_front
length-spread_front input = length-map-range_with_len (spread_byte (toy_state input)) 0 4096
