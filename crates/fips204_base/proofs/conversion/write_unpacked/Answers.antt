use Rattle.fips204_base.proofs.Names.{common_steps, iff_false, to_z-of_z, ints, map-append, take_all, All-append, Any, R, width, coefficient, field, one_above, Unpacks, is_unpacked, packs_none, packs_joined, length-put_mid, put_piece}
use Rattle.std.proofs.Common.{rules, arith, ℤ, pos, ◌≡◌, ◌+◌, ◌*◌, ◌-◌, ◌≤◌, ◌∙◌, ◌<ℤ◌, refl, subst, ap, length, length-take, length-drop, take, w32, to_z, of_z}
use Rattle.std.proofs.Math.Seq.{take-add}
use Rattle.fips204_base.proofs.conversion.write_unpacked.Goals as goal
use Rattle.fips204_base.proofs.conversion.write_unpacked.Goals.{After-loop-i, else-a-eq0-via-then-a-eq0+else-not-is_in_range, else-a-eq0-via-else-a-eq0}

pub loop-i-init : goal.loop-i-init
loop-i-init c = grind (arith, ints, common_steps, packs_none)

pub loop-i-preserved : goal.loop-i-preserved
loop-i-preserved c =
    let size = c.field_width-c.result in
    let at = c.field_width-c.result * c.loop-i.i in
    let done = 8 * c.loop-i.i in
    let A = to_z w32 (of_z w32 c.args.a) in
    let B = to_z w32 (of_z w32 c.args.b) in
    let next : size * (c.loop-i.i + 1) ≡ at + (at + size - at) = omega arith in
    let eight_more : 8 * (c.loop-i.i + 1) ≡ done + (done + 8 - done) = omega arith in
    let ends : done + (done + 8 - done) ≤ length c.loop-i.w.0 = omega (arith, c.loop-i.invariant.long, c.loop-i-test.true) in
    let long : length c.write_unpacked_group.new.out ≡ done + 8 - done = c.write_unpacked_group.auto.out ∙ simp (length-take, length-drop) (omega (arith, ends)) in
    let bytes = ap (λ n. take n c.args.v.now) next ∙ take-add at (at + size - at) c.args.v.now in
    let coefficients = put_piece done (done + 8 - done) (8 * (c.loop-i.i + 1)) c.loop-i.w.0 c.write_unpacked_group.new.out _ long ends eight_more refl in
    let here = rw (← c.field_width-c.ensures.value) at c.write_unpacked_group.ensures.fields in
    record {
      long = length-put_mid done (done + 8 - done) c.loop-i.w.0 c.write_unpacked_group.new.out long ends ∙ c.loop-i.invariant.long;
      so_far = rw (bytes, coefficients, map-append (field A B) (take done c.loop-i.w.0) c.write_unpacked_group.new.out) (packs_joined _ _ _ _ _ c.loop-i.invariant.so_far here);
      coefficients = rw coefficients
          (All-append (λ (x : ℤ). coefficient A B (field A B x) ≡ x) (take done c.loop-i.w.0) c.write_unpacked_group.new.out c.loop-i.invariant.coefficients c.write_unpacked_group.ensures.coefficients);
    }

-- all fields are read once all groups are
all_read : (c : After-loop-i) → Unpacks c.args.a c.args.b c.args.v.now c.loop-i.w.0
all_read c =
    let A = to_z-of_z w32 c.args.a c.ranges.a in
    let B = to_z-of_z w32 c.args.b c.ranges.b in
    let all : c.loop-i.i ≡ 32 = omega (arith, c.loop-i-test.false, c.loop-i.auto.i-end) in
    let w : c.field_width-c.result ≡ width c.args.a c.args.b = rw (A, B) at c.field_width-c.ensures.value in
    let last : c.field_width-c.result * c.loop-i.i ≡ c.field_width-c.result * 32 = ap (λ i. c.field_width-c.result * i) all in
    let bytes : take (c.field_width-c.result * c.loop-i.i) c.args.v.now ≡ c.args.v.now = take_all _ c.args.v.now (omega (arith, last, c.requires.room, w)) in
    let whole : take (8 * c.loop-i.i) c.loop-i.w.0 ≡ c.loop-i.w.0 = take_all _ c.loop-i.w.0 (omega (arith, all, c.loop-i.invariant.long)) in
    record {
      same_fields = rw (A, B, bytes, whole, w) at c.loop-i.invariant.so_far;
      count = c.loop-i.invariant.long;
      coefficients = rw (A, B, whole) at c.loop-i.invariant.coefficients;
    }

pub returns-then-not-is_in_range : goal.returns-then-not-is_in_range
returns-then-not-is_in_range c =
    let B = to_z-of_z w32 c.args.b c.ranges.b in
    let zero : c.args.a ≡ pos 0 = omega (arith, ints, c.if-a-eq0.true) in
    let unpacks = all_read (goal.at.returns-then-not-is_in_range c).After-loop-i in
    let w : R = c.loop-i.w in
    let above = one_above c.args.a c.args.b c.loop-i.w.0 zero unpacks.coefficients (λ r. iff_false c.is_in_range.ensures c.if-not-is_in_range.true (rw B r)) in
    (zero, subst (λ (w : R). Any (λ x. c.args.b <ℤ x) w.0) (is_unpacked c.args.a c.args.b c.args.v.now w c.requires.bounds unpacks) above)

pub returns : goal.returns
returns c = (
  is_unpacked c.args.a c.args.b c.args.v.now c.loop-i.w c.requires.bounds (all_read (goal.at.returns c).After-loop-i),
  λ zero. elim c.else-a-eq0.branch [
    | else-a-eq0-via-then-a-eq0+else-not-is_in_range w ↦ rw (to_z-of_z w32 c.args.b c.ranges.b) at w.is_in_range.ensures.0 (search rules)
    | else-a-eq0-via-else-a-eq0 w ↦ absurd (omega (arith, ints, zero, w.if-a-eq0.false))
  ],
)
