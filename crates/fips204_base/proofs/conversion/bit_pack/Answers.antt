use Rattle.std.proofs.Common.{arith, ◌≡◌, ◌+◌, ◌*◌, ◌-◌, ◌≤◌, ◌∙◌, refl, ap, length, length-take, length-drop, take, drop, w32, to_z, of_z}
use Rattle.fips204_base.proofs.Names.{to_z-of_z, ints, map-append, take_all, common_steps, field, polynomial_bytes-is, is_packed, packs_none, packs_joined, length-put_mid, put_piece, piece-within}
use Rattle.std.proofs.Math.Seq.{take-add}
use Rattle.fips204_base.proofs.conversion.bit_pack.Goals as goal

pub loop-i-init : goal.loop-i-init
loop-i-init c = grind (arith, ints, common_steps, to_z-of_z, packs_none)

pub write_packed_group-requires-clause-range : goal.write_packed_group-requires-clause-range
write_packed_group-requires-clause-range c = grind (arith, common_steps)

pub loop-i-preserved : goal.loop-i-preserved
loop-i-preserved c =
    let size = c.field_width-c.result in
    let at = c.field_width-c.result * c.loop-i.i in
    let done = 8 * c.loop-i.i in
    let within = piece-within size c.loop-i.i 32 (length c.loop-i.out) (omega (arith, c.loop-i.invariant.long)) c.loop-i-test.true in
    let long : length c.write_packed_group.new.out ≡ at + size - at = c.write_packed_group.auto.out ∙ simp (length-take, length-drop) (omega (arith, within)) in
    let ends : at + (at + size - at) ≤ length c.loop-i.out = omega (arith, within) in
    let next : size * (c.loop-i.i + 1) ≡ at + (at + size - at) = omega arith in
    let eight_more : 8 * (c.loop-i.i + 1) ≡ done + (done + 8 - done) = omega arith in
    let bytes = put_piece at (at + size - at) (size * (c.loop-i.i + 1)) c.loop-i.out c.write_packed_group.new.out _ long ends next refl in
    let coefficients = ap (λ n. take n c.args.w.now.0) eight_more ∙ take-add done (done + 8 - done) c.args.w.now.0 in
    let here = rw (← c.field_width-c.ensures.value) at c.write_packed_group.ensures in
    record {
      long = length-put_mid at (at + size - at) c.loop-i.out c.write_packed_group.new.out long ends ∙ c.loop-i.invariant.long;
      so_far = rw (bytes, coefficients, map-append (field (to_z w32 (of_z w32 c.args.a)) (to_z w32 (of_z w32 c.args.b))) (take done c.args.w.now.0) (take (done + 8 - done) (drop done c.args.w.now.0)))
          (packs_joined _ _ _ _ _ c.loop-i.invariant.so_far here);
    }

pub returns : goal.returns
returns c = grind (arith, ints, common_steps, to_z-of_z, take_all, is_packed, polynomial_bytes-is)
