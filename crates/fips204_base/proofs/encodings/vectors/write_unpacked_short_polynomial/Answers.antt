use Rattle.std.proofs.Common.{◌≡◌, ◌<◌, ℕ, rules, true, false, refl, sym, subst, pos, ◌-ℤ◌, w32}
use Rattle.fips204_base.proofs.Names.{to_z-of_z, All-from_get_or, PolynomialInRange, Unpacks, unpacks, unpacks_bytes, bytes_unpack, unpacks_once}
use Rattle.fips204_base.proofs.encodings.vectors.write_unpacked_short_polynomial.Goals as goal
use Rattle.fips204_base.proofs.encodings.vectors.write_unpacked_short_polynomial.Goals.{After-is_in_range}

unpacked : (c : After-is_in_range) → Unpacks c.args.eta c.args.eta c.args.bytes.now c.write_unpacked_by_range.new.w.0
unpacked c =
    let same = let e = c.in_ok-write_unpacked_by_range.ensures.0 in rw (to_z-of_z w32 c.args.eta c.ranges.eta) at e in
    let small = All-from_get_or (λ (x : ℕ). x < 256) c.args.bytes.now 0 (λ i h. (c.type_inv.bytes i).fits) in
    unpacks c.args.eta c.args.eta c.args.bytes.now c.write_unpacked_by_range.new.w c.requires.bounds c.requires.room small same

pub returns-then-is_in_range : goal.returns-then-is_in_range
returns-then-is_in_range c =
    let E = to_z-of_z w32 c.args.eta c.ranges.eta in
    let u = unpacked (goal.at.returns-then-is_in_range c).After-is_in_range in
    let t = c.if-is_in_range.ensures in
    ((rw E at t).0 refl, u.count, sym (unpacks_bytes c.args.eta c.args.eta c.args.bytes.now c.write_unpacked_by_range.new.w.0 u))

pub returns-else-is_in_range : goal.returns-else-is_in_range
returns-else-is_in_range c = λ w found.
    let E = to_z-of_z w32 c.args.eta c.ranges.eta in
    let u = unpacked (goal.at.returns-else-is_in_range c).After-is_in_range in
    let other : Unpacks c.args.eta c.args.eta c.args.bytes.now w.0 = subst (λ b. Unpacks c.args.eta c.args.eta b w.0) found.2 (bytes_unpack c.args.eta c.args.eta w.0 c.requires.bounds found.0 found.1) in
    let once = unpacks_once c.args.eta c.args.eta c.args.bytes.now w.0 c.write_unpacked_by_range.new.w.0 other u in
    let t = c.if-is_in_range.ensures in
    let both : false ≡ true = (rw E at t).1 (subst (λ l. PolynomialInRange (pos 0 -ℤ c.args.eta) c.args.eta l) once found.0) in
    search (rules, both)
