-- The constants against the rules of the standard, and known answers, so that a wrong constant or step in the
-- definition does not check.
use Rattle.std.proofs.Common.{◌≡◌, ℕ, zero, suc, ◌+◌, ◌-◌, ◌*◌, ◌/◌, ◌%◌, ◌^◌, List, [], ◌∷◌, map, replicate, slice_set, bit_xor, codes, refl}
use Rattle.std.specs.List.{range_with_len, sum_by}
use Rattle.shake.specs.Keccak.{theta, rho, pi, chi, iota, rounds, offsets, round_constants}
use Rattle.shake.specs.Shake.{bytes, block_lane, add_block, absorbed, squeezed, padding, message_state, shake, shake128, shake256}

-- the walk of algorithm 2 from lane (x, y), with n steps to go, where t are done
pub walk : ℕ → ℕ → ℕ → ℕ → List ℕ → List ℕ
walk zero t x y a = a
walk (suc n) t x y a = walk n (t + 1) y ((2 * x + 3 * y) % 5) (slice_set a (x + 5 * y) ((t + 1) * (t + 2) / 2 % 64))

-- the offsets of ρ are those of the walk (algorithm 2)
pub offsets_walked : walk 24 0 1 0 (replicate 25 0) ≡ offsets
unfolding walk
offsets_walked = refl

-- a step of the register R: bit i of the number is R[i] (algorithm 5)
abbrev shifted : ℕ → ℕ
shifted r = bit_xor (2 * r % 256) (r / 128 * 0x71)

pub register : ℕ → ℕ
register zero = 1
register (suc t) = shifted (register t)

-- RC of a round: bit 2 ^ j - 1 is rc (j + 7 i) (algorithm 6)
abbrev constant : ℕ → ℕ
constant i = sum_by (λ j. register (j + 7 * i) % 2 * 2 ^ (2 ^ j - 1)) (range_with_len 0 7)

pub round_constants_made : map constant (range_with_len 0 24) ≡ round_constants
unfolding register
round_constants_made = refl

pub shake256_of_nothing : shake256 [] 32 ≡
    0x46 ∷ 0xB9 ∷ 0xDD ∷ 0x2B ∷ 0x0B ∷ 0xA8 ∷ 0x8D ∷ 0x13 ∷ 0x23 ∷ 0x3B ∷ 0x3F ∷ 0xEB ∷ 0x74 ∷ 0x3E ∷ 0xEB ∷ 0x24 ∷
    0x3F ∷ 0xCD ∷ 0x52 ∷ 0xEA ∷ 0x62 ∷ 0xB8 ∷ 0x1B ∷ 0x82 ∷ 0xB5 ∷ 0x0C ∷ 0x27 ∷ 0x64 ∷ 0x6E ∷ 0xD5 ∷ 0x76 ∷ 0x2F ∷ []
unfolding theta rho pi chi iota rounds bytes block_lane add_block absorbed squeezed padding message_state shake
shake256_of_nothing = refl

pub shake128_of_abc : shake128 (codes "abc") 32 ≡
    0x58 ∷ 0x81 ∷ 0x09 ∷ 0x2D ∷ 0xD8 ∷ 0x18 ∷ 0xBF ∷ 0x5C ∷ 0xF8 ∷ 0xA3 ∷ 0xDD ∷ 0xB7 ∷ 0x93 ∷ 0xFB ∷ 0xCB ∷ 0xA7 ∷
    0x40 ∷ 0x97 ∷ 0xD5 ∷ 0xC5 ∷ 0x26 ∷ 0xA6 ∷ 0xD3 ∷ 0x5F ∷ 0x97 ∷ 0xB8 ∷ 0x33 ∷ 0x51 ∷ 0x94 ∷ 0x0F ∷ 0x2C ∷ 0xC8 ∷ []
unfolding theta rho pi chi iota rounds bytes block_lane add_block absorbed squeezed padding message_state shake
shake128_of_abc = refl
