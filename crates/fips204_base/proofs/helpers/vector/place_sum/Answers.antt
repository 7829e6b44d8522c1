use Rattle.std.proofs.Common.{ℕ, arith, refl, ◌≡◌, ◌≤◌, ◌*◌, ap, ◌∙◌, ℤ, pos, ◌+ℤ◌, ◌*ℤ◌, to_z, of_z, get_or, []}
use Rattle.fips204_base.proofs.Names.{nat_abs, w32, w64, SFits, ints, to_z-of_z, fits_signed_from_abs, residue, sum_below, vector_residues, residue_sum_more, size_sum_more, size_at}
use Rattle.fips204_base.proofs.helpers.vector.place_sum.Goals as goal

-- a product of two small numbers, added
added : (s x y result : ℤ) (k : ℕ) → nat_abs s ≤ 70231372333056 * k → k ≤ 6 → nat_abs x ≤ 8380416 → nat_abs y ≤ 8380416 → result ≡ to_z w32 (of_z w32 x) *ℤ to_z w32 (of_z w32 y) →
    SFits w64 (s +ℤ to_z w64 (of_z w64 result)) × (to_z w64 (of_z w64 (s +ℤ to_z w64 (of_z w64 result))) ≡ s +ℤ x *ℤ y)
added s x y result k hs hk hx hy e =
    let fx : SFits w32 x = fits_signed_from_abs w32 x (omega (arith, hx)) in
    let fy : SFits w32 y = fits_signed_from_abs w32 y (omega (arith, hy)) in
    let product : result ≡ x *ℤ y = rw (to_z-of_z w32 x fx, to_z-of_z w32 y fy) at e in
    let none = size_sum_more (pos 0) x y 0 (omega arith) hx hy in
    let size = size_sum_more s x y k hs hx hy in
    let fits : SFits w64 (x *ℤ y) = fits_signed_from_abs w64 (x *ℤ y) (omega (arith, ints, none)) in
    let whole : SFits w64 (s +ℤ x *ℤ y) = fits_signed_from_abs w64 (s +ℤ x *ℤ y) (omega (arith, size, hk)) in
    let read : s +ℤ to_z w64 (of_z w64 result) ≡ s +ℤ x *ℤ y = ap (λ z. s +ℤ to_z w64 (of_z w64 z)) product ∙ ap (λ z. s +ℤ z) (to_z-of_z w64 (x *ℤ y) fits) in
    (rw read whole, rw read (to_z-of_z w64 (s +ℤ x *ℤ y) whole))

pub loop-k-init : goal.loop-k-init
unfolding sum_below
loop-k-init g c = record { value = refl; small = omega arith }

pub overflow_add-sum : goal.overflow_add-sum
overflow_add-sum g c =
    let row = get_or c.args.row.now c.loop-k.k record { 0 = [] } in
    let hx = size_at 8380416 row.0 c.args.j (c.requires.row c.loop-k.k record { 0 = [] } (omega (arith, c.loop-k-test.true, c.told-row))) in
    let other = get_or c.args.u.now c.loop-k.k record { 0 = [] } in
    let hy = size_at 8380416 other.0 c.args.j (c.requires.vector c.loop-k.k record { 0 = [] } (omega (arith, c.loop-k-test.true, c.told-u))) in
    (added (to_z w64 c.loop-k.sum-bits) (get_or row.0 c.args.j (pos 0)) (get_or other.0 c.args.j (pos 0)) c.wide_product-sum.result c.loop-k.k
    c.loop-k.invariant.small (omega (arith, c.loop-k-test.true, c.requires.columns)) hx hy c.wide_product-sum.ensures).0

pub loop-k-preserved : goal.loop-k-preserved
loop-k-preserved g c =
    let k = c.loop-k.k in
    let row = get_or c.args.row.now k record { 0 = [] } in
    let x = get_or row.0 c.args.j (pos 0) in
    let other = get_or c.args.u.now k record { 0 = [] } in
    let y = get_or other.0 c.args.j (pos 0) in
    let in_row = c.told-row in
    let in_other = c.told-u in
    let hx = size_at 8380416 row.0 c.args.j (c.requires.row k record { 0 = [] } (omega (arith, c.loop-k-test.true, in_row))) in
    let hy = size_at 8380416 other.0 c.args.j (c.requires.vector k record { 0 = [] } (omega (arith, c.loop-k-test.true, in_other))) in
    let s = to_z w64 c.loop-k.sum-bits in
    let next = (added s x y c.wide_product-sum.result k c.loop-k.invariant.small (omega (arith, c.loop-k-test.true, c.requires.columns)) hx hy c.wide_product-sum.ensures).1 in
    record {
      value = ap residue next ∙ residue_sum_more s x y k (λ k. vector_residues c.args.row.now k c.args.j * vector_residues c.args.u.now k c.args.j) c.loop-k.invariant.value refl;
      small = rw next (size_sum_more s x y k c.loop-k.invariant.small hx hy);
    }
