-- Fields, packed bits and ones of hints, as steps of encoding keep them: cited by no public clause of `fips204`;
-- nobody has to believe it.
use Rattle.std.specs.Prelude.{◌≡◌, ℕ, ◌+◌, ◌*◌, ◌/◌, ◌%◌, ◌^◌, ◌<◌, slice_index, ℤ, pos, ◌-ℤ◌, nat_abs, List, int_lt, if◌then◌else◌}
use Rattle.std.specs.List.{All, filter, range_with_len}
use Rattle.fips204_base.specs.Encodings.{is_one}
use Rattle.fips204_base.specs.Packing.{bits}
use Rattle.fips204_base.specs.declared.types.R.{R}

-- the field of a coefficient from -a to b: the coefficient itself where a is 0, else its distance from b
unfoldable pub field : ℤ → ℤ → ℤ → ℕ
field a b x = if int_lt (pos 0) a then nat_abs (b -ℤ x) else nat_abs x

-- the coefficient that has a field
unfoldable pub coefficient : ℤ → ℤ → ℕ → ℤ
coefficient a b f = if int_lt (pos 0) a then b -ℤ pos f else pos f

-- all bits of the bytes, lowest first, are all bits of fields of c bits each, lowest first
pub record Packs (c : ℕ) (bytes fields : List ℕ) : Type 0 where
  pub same_bits : bits 8 bytes ≡ bits c fields
  pub small_bytes : All (λ byte. byte < 256) bytes
  pub small_fields : All (λ field. field < 2 ^ c) fields

-- the places below n of a polynomial that have a one, rising
unfoldable pub ones_below : R → ℕ → List ℕ
ones_below w n = filter (is_one w) (range_with_len 0 n)

-- all its places that have a one
abbrev pub ones : R → List ℕ
ones w = ones_below w 256

-- the number in three bytes from byte n on, the lowest first
abbrev pub three_bytes : List ℕ → ℕ → ℕ
three_bytes bytes n = slice_index bytes n + 256 * slice_index bytes (n + 1) + 65536 * slice_index bytes (n + 2)

-- field n of bytes that hold fields of c bits, where it stands in three bytes
abbrev pub wide_field : ℕ → List ℕ → ℕ → ℕ
wide_field c bytes n = three_bytes bytes (c * n / 8) / 2 ^ (c * n % 8) % 2 ^ c
