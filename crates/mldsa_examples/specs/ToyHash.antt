-- A toy hash, for the XOFs of an example: a number below a prime, made of one byte after the other. It hides nothing.
use Rattle.std.specs.Prelude.{◌≡◌, ℕ, ◌+◌, ◌*◌, ◌%◌, List, length}
use Rattle.std.specs.List.{fold}
use Rattle.std.specs.Int.{w32, to_le_bytes}
use Rattle.std.proofs.Common.{rules}

-- the number after one more byte
abbrev pub next_state : ℕ → ℕ → ℕ
next_state state byte = (state * 16777619 + byte) % 4294967291

-- the number of a message
abbrev pub toy_state : List ℕ → ℕ
toy_state message = fold next_state 2166136261 message

-- the digest of a message: its number as four bytes, the lowest first
abbrev pub toy_hash : List ℕ → List ℕ
toy_hash message = to_le_bytes w32 (toy_state message)

-- a digest has four bytes
pub length-toy_hash : (message : List ℕ) → length (toy_hash message) ≡ 4
length-toy_hash message = search rules
