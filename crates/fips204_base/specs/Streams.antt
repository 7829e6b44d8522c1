-- XOFs: what stands in the place of SHAKE256 and SHAKE128 (FIPS 204, section 3.7).
use Rattle.std.specs.Prelude.{◌≡◌, ℕ, zero, suc, List, [], ◌++◌, length, take}
use Rattle.std.specs.Int.{w32, to_le_bytes}
use Rattle.sha2.specs.Sha256.{sha256}
use Rattle.sha2.specs.Sha512.{sha512}

-- byte strings
abbrev pub Bytes : Type 0
Bytes = List ℕ

-- an extendable-output function (XOF): its output over an input, as far as it is there
abbrev pub XOF : Type 0
XOF = Bytes → Bytes

-- block i of an XOF in counter mode: the hash of the seed followed by i as four bytes, the lowest first
unfoldable pub counter_block : (Bytes → Bytes) → Bytes → ℕ → Bytes
counter_block hash seed i = hash (seed ++ to_le_bytes w32 i)

-- the first n blocks of an XOF in counter mode, joined
unfoldable pub counter_blocks : (Bytes → Bytes) → Bytes → ℕ → Bytes
counter_blocks hash seed zero = []
counter_blocks hash seed (suc n) = counter_blocks hash seed n ++ counter_block hash seed n

-- the output of `Sha256Ctr`: 128 blocks of SHA-256 over the digest of the input
abbrev pub sha256_front : XOF
sha256_front input = counter_blocks sha256 (sha256 input) 128

-- the output of `Sha512Ctr`: 64 blocks of SHA-512 over the digest of the input
abbrev pub sha512_front : XOF
sha512_front input = counter_blocks sha512 (sha512 input) 64

-- the output of `Sha256CtrLong`: the first 512 of the blocks of `Sha256Ctr`
abbrev pub sha256_long_front : XOF
sha256_long_front input = counter_blocks sha256 (sha256 input) 512

-- the output of `Sha512CtrLong`: the first 256 of the blocks of `Sha512Ctr`
abbrev pub sha512_long_front : XOF
sha512_long_front input = counter_blocks sha512 (sha512 input) 256

-- an output is a prefix of a longer one
abbrev pub IsPrefix : Bytes → Bytes → Type 0
IsPrefix front longer = take (length front) longer ≡ front

-- each output of H is a prefix of the matching output of H'
abbrev pub ArePrefixes : XOF → XOF → Type 0
ArePrefixes H H' = (input : Bytes) → IsPrefix (H input) (H' input)
