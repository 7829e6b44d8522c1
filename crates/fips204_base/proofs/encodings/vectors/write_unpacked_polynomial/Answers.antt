use Rattle.std.proofs.Common.{◌≡◌, ◌<◌, ◌*◌, ◌^◌, ℕ, ℤ, pos, nat_abs, ◌+ℤ◌, ◌-ℤ◌, List, length, refl, sym, rules, w32}
use Rattle.fips204_base.proofs.Names.{Option, None, Some, All, to_z-of_z, All-from_get_or, R, unpacked, width, Bounds, IsUnpacked, Unpacks, unpacks, unpacks_bytes, none_above, unpacked_range}
use Rattle.std.specs.Option.{IsSome}
use Rattle.std.specs.Prelude.{MatchOption}
use Rattle.fips204_base.proofs.encodings.vectors.write_unpacked_polynomial.Goals as goal
use Rattle.fips204_base.proofs.encodings.vectors.write_unpacked_polynomial.Goals.{After-write_unpacked_by_range}

no_refusal : (a b : ℤ) (bytes : List ℕ) (o : Option (Unit {0})) (w : R) → Bounds a b → pos (2 ^ width a b) ≡ a +ℤ b +ℤ pos 1 → length bytes ≡ 32 * width a b
    → All (λ byte. byte < 256) bytes → MatchOption o (IsUnpacked a b bytes None) (λ _. IsUnpacked a b bytes (Some w)) → IsSome o × Unpacks a b bytes w.0
no_refusal a b bytes None w bounds whole room small above =
    let v = unpacked (nat_abs a) (nat_abs b) bytes in
    absurd (none_above (pos 0 -ℤ a) b v.0 (unpacked_range a b bytes v.0 bounds whole (unpacks a b bytes v bounds room small refl)) above.1)
no_refusal a b bytes (Some _) w bounds whole room small done = (search rules, unpacks a b bytes w bounds room small done.0)

-- a polynomial is there, and has these fields
found : (c : After-write_unpacked_by_range) → IsSome c.write_unpacked_by_range.result × Unpacks c.args.a c.args.b c.args.bytes.now c.write_unpacked_by_range.new.w.0
found c =
    let small = All-from_get_or (λ (x : ℕ). x < 256) c.args.bytes.now 0 (λ i h. (c.type_inv.bytes i).fits) in
    no_refusal c.args.a c.args.b c.args.bytes.now c.write_unpacked_by_range.result c.write_unpacked_by_range.new.w c.requires.bounds c.requires.whole c.requires.room small
    (rw (to_z-of_z w32 c.args.a c.ranges.a, to_z-of_z w32 c.args.b c.ranges.b) at c.write_unpacked_by_range.ensures)

pub unwrap-requires : goal.unwrap-requires
unwrap-requires c = (found c).0

pub returns-clause-same_bytes : goal.returns-clause-same_bytes
returns-clause-same_bytes c = sym (unpacks_bytes c.args.a c.args.b c.args.bytes.now c.write_unpacked_by_range.new.w.0 (found (goal.at.returns-clause-same_bytes c).After-write_unpacked_by_range).1)

pub returns-clause-range : goal.returns-clause-range
returns-clause-range c = unpacked_range c.args.a c.args.b c.args.bytes.now c.write_unpacked_by_range.new.w.0 c.requires.bounds c.requires.whole (found (goal.at.returns-clause-range c).After-write_unpacked_by_range).1

pub returns-clause-places : goal.returns-clause-places
returns-clause-places c = (found (goal.at.returns-clause-places c).After-write_unpacked_by_range).1.count
