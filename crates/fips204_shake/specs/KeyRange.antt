-- Which arrays of the right length no private key has (FIPS 204, Algorithm 25).
use Rattle.std.specs.Prelude.{◌≡◌, ◌↔◌, ◌<◌, ◌+◌, ◌*◌, ℕ, pos, ◌-ℤ◌, ◌<ℤ◌, length, take, drop, Result, Err, ⊤}
use Rattle.std.specs.List.{All, Any}
use Rattle.fips204_base.specs.Packing.{unpacked, width}
use Rattle.fips204_base.specs.Streams.{Bytes}
use Rattle.fips204_base.specs.declared.fault.Fault.TheVariants.{KeyRange}
use Rattle.fips204_base.specs.declared.types.R.{R}
use Rattle.fips204.specs.ParameterSets.{ParameterSet, private_key_length}
use Rattle.fips204_shake.specs.Bytes.{Checks}
use Rattle.fips204_shake.specs.declared.bytes.refusal.Refusal.{Refusal}
use Rattle.fips204_shake.specs.declared.bytes.refusal.Refusal.TheVariants.{Library}

-- polynomial i of s1 and s2, one after another, as the bytes hold it, in range or not: each coefficient is eta less its field
abbrev pub small_polynomial_at : ParameterSet → Bytes → ℕ → R
small_polynomial_at p key i =
    let size = 32 * width (pos p.eta) (pos p.eta) in
    unpacked p.eta p.eta (take size (drop (128 + size * i) key))

-- a field of s1 or s2 is above 2 eta: its coefficient is below -eta
abbrev pub HasFieldAbove : ParameterSet → Bytes → Type 0
HasFieldAbove p key = (i : ℕ) × (i < p.l + p.k) × Any (λ x. x <ℤ (pos 0 -ℤ pos p.eta)) (small_polynomial_at p key i).0

-- these arrays are those of which check_private_key returns KeyRange
abbrev pub RangeIsOfFields : ParameterSet → Type 0
RangeIsOfFields p = (key : Bytes) (answer : Result ⊤ Refusal) → All (λ byte. byte < 256) key → length key ≡ private_key_length p → Checks p key answer
    → (answer ≡ Err (Library KeyRange)) ↔ HasFieldAbove p key
