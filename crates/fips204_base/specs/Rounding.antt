-- Rounding and hints (FIPS 204, Algorithms 35 to 40). Each r and z is a residue, from 0 to q - 1.
use Rattle.std.specs.Prelude.{◌≡◌, ◌⊎◌, ℕ, ◌+◌, ◌-◌, ◌*◌, ◌/◌, ◌%◌, ℤ, pos, ◌-ℤ◌, nat_abs, Bool, not, if◌then◌else◌, nat_eq, int_lt}
use Rattle.fips204_base.specs.Residues.{centred_modulo}

-- gamma2 at the parameter sets (FIPS 204, Table 1)
abbrev pub IsGamma2 : ℤ → Type 0
IsGamma2 gamma2 = (gamma2 ≡ pos 95232) ⊎ (gamma2 ≡ pos 261888)

-- Power2Round (Algorithm 35): (r1, r0), where r0 is r centred modulo 2^13 and r1 is (r - r0) / 2^13
abbrev pub power2round : ℕ → ℕ × ℤ
power2round r = (nat_abs (pos r -ℤ centred_modulo 8192 r) / 8192, centred_modulo 8192 r)

-- Decompose (Algorithm 36): (r1, r0), where r0 is r centred modulo 2 gamma2 and r1 is (r - r0) / (2 gamma2);
-- but where r - r0 is q - 1, r1 is 0 and r0 is one less
unfoldable pub decompose : ℕ → ℕ → ℕ × ℤ
decompose gamma2 r =
    let r0 = centred_modulo (2 * gamma2) r in
    let multiple = nat_abs (pos r -ℤ r0) in
    if nat_eq multiple 8380416 then (0, r0 -ℤ pos 1) else (multiple / (2 * gamma2), r0)

-- HighBits (Algorithm 37)
abbrev pub high_bits : ℕ → ℕ → ℕ
high_bits gamma2 r = (decompose gamma2 r).0

-- LowBits (Algorithm 38)
abbrev pub low_bits : ℕ → ℕ → ℤ
low_bits gamma2 r = (decompose gamma2 r).1

-- MakeHint (Algorithm 39): whether the high bits of r + z differ from those of r
abbrev pub make_hint : ℕ → ℕ → ℕ → Bool
make_hint gamma2 z r = not (nat_eq (high_bits gamma2 r) (high_bits gamma2 ((r + z) % 8380417)))

-- how many values high bits have: 44 or 16
abbrev pub high_count : ℕ → ℕ
high_count gamma2 = 8380416 / (2 * gamma2)

-- UseHint (Algorithm 40): r1 of (r1, r0) without a hint; with one it goes up by 1 where r0 > 0, else down by 1, modulo the count of values
unfoldable pub use_hint : ℕ → Bool → ℕ → ℕ
use_hint gamma2 hint r =
    let parts = decompose gamma2 r in
    if not hint then parts.0
    else if int_lt (pos 0) parts.1 then (parts.0 + 1) % high_count gamma2
    else (parts.0 + (high_count gamma2 - 1)) % high_count gamma2
