use Rattle.std.proofs.Common.{rules, arith, ℕ, ℤ, ◌≡◌, ◌<◌, ◌+◌, ◌-◌, ◌^◌, ◌∙◌, refl, sym, map, take, length-set, w32, to_z, of_z, SFits}
use Rattle.std.proofs.lemmas.List.{take_all}
use Rattle.std.proofs.lemmas.List.FromFn.{map-range_with_len_more}
use Rattle.std.proofs.lemmas.List.Elements.{All-weaker}
use Rattle.std.specs.List.{range_with_len}
use Rattle.fips204_base.proofs.Names.{to_z-of_z, All, All-from_get_or, HasField, coefficient, field, field_at, field_small, bits, bits_below, packs_cut, stored, width, wide_field, wide-at}
use Rattle.fips204_base.proofs.conversion.write_wide_group.Goals as goal
use Rattle.fips204_base.proofs.conversion.write_wide_group.Goals.{After-loop-i, then-i-lt4, else-i-lt4}

pub loop-i-init : goal.loop-i-init
loop-i-init c = record { long = c.requires.eight; so_far = refl; fields = λ k d h. absurd (omega (arith, h)) }

pub loop-i-preserved : goal.loop-i-preserved
loop-i-preserved c =
    let A = to_z w32 (of_z w32 c.args.a) in
    let B = to_z w32 (of_z w32 c.args.b) in
    let i = c.loop-i.i in
    let bytes = All-from_get_or (λ (x : ℕ). x < 256) c.args.v.now 0 (λ j h. (c.type_inv.v j).fits) in
    let same : c.field_width.result ≡ width c.args.a c.args.b = rw (to_z-of_z w32 c.args.a c.ranges.a, to_z-of_z w32 c.args.b c.ranges.b) at c.field_width.ensures.value in
    let read : c.if-i-lt4.field ≡ wide_field (width c.args.a c.args.b) c.args.v.now i = elim c.if-i-lt4.branch [
      | then-i-lt4 w ↦ rw same at (w.field-is ∙ c.wide_fields.ensures.first i w.if-i-lt4.true)
      | else-i-lt4 w ↦
          let past : 4 + (i - 4) ≡ i = omega (arith, w.if-i-lt4.false) in
          rw (same, past) at (w.field-is ∙ c.wide_fields.ensures.last (i - 4) (omega (arith, c.loop-i-test.true, w.if-i-lt4.false)))
    ] in
    let is : c.if-i-lt4.field ≡ field_at (width A B) (bits 8 c.args.v.now) i =
    rw (to_z-of_z w32 c.args.a c.ranges.a, to_z-of_z w32 c.args.b c.ranges.b) (read ∙ wide-at (width c.args.a c.args.b) c.args.v.now i c.requires.wide c.requires.room bytes c.loop-i-test.true) in
    let small : c.if-i-lt4.field < 2 ^ width A B = rw is (field_small (width A B) (bits 8 c.args.v.now) i (bits_below 8 c.args.v.now)) in
    let fits : SFits w32 c.coefficient_of.result = search rules in
    let new = stored A B c.if-i-lt4.field i c.loop-i.out (to_z w32 (of_z w32 c.coefficient_of.result)) (omega (arith, c.loop-i.invariant.long, c.loop-i-test.true))
    (to_z-of_z w32 c.coefficient_of.result fits ∙ c.coefficient_of.ensures) small c.loop-i.invariant.fields in
    record {
      long = length-set c.loop-i.out i _ ∙ c.loop-i.invariant.long;
      so_far = new.0 ∙ rw (c.loop-i.invariant.so_far, is) (sym (map-range_with_len_more (field_at (width A B) (bits 8 c.args.v.now)) 0 i i (omega arith)));
      fields = new.1;
    }

-- all fields are read after eight
all_read : (c : After-loop-i) → (map (field c.args.a c.args.b) c.loop-i.out ≡ map (field_at (width c.args.a c.args.b) (bits 8 c.args.v.now)) (range_with_len 0 8)) × All (HasField c.args.a c.args.b) c.loop-i.out
all_read c =
    let all : c.loop-i.i ≡ 8 = omega (arith, c.loop-i-test.false, c.loop-i.auto.i-end) in
    let kept : take 8 c.loop-i.out ≡ c.loop-i.out = take_all 8 c.loop-i.out (omega (arith, c.loop-i.invariant.long)) in
    let A = to_z-of_z w32 c.args.a c.ranges.a in
    let B = to_z-of_z w32 c.args.b c.ranges.b in
    (rw (A, B, all, kept) at c.loop-i.invariant.so_far, rw (A, B, all, kept) at c.loop-i.invariant.fields)

pub returns-clause-fields : goal.returns-clause-fields
returns-clause-fields c =
    let bytes = All-from_get_or (λ (x : ℕ). x < 256) c.args.v.now 0 (λ j h. (c.type_inv.v j).fits) in
    rw (all_read (goal.at.returns-clause-fields c).After-loop-i).0 (packs_cut (width c.args.a c.args.b) 8 c.args.v.now (omega (arith, c.requires.room)) bytes)

pub returns-clause-coefficients : goal.returns-clause-coefficients
returns-clause-coefficients c =
    All-weaker (HasField c.args.a c.args.b) (λ (x : ℤ). coefficient c.args.a c.args.b (field c.args.a c.args.b x) ≡ x) (λ x h. h.1) c.loop-i.out (all_read (goal.at.returns-clause-coefficients c).After-loop-i).1
