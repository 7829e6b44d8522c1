use Rattle.fips204_base.proofs.Names.{common_steps, to_z-of_z, ints, take_more, All-from_get_or, mod_below, pow_pos, width, bits, Packs, field, coefficient, stored, group_finished, All}
use Rattle.std.proofs.Common.{rules, arith, ℕ, ◌≡◌, ◌<◌, ◌^◌, ◌∙◌, map, length, take, get_or, sym, length-set, w32, to_z, of_z, SFits}
use Rattle.fips204_base.proofs.Bits.{digits-zero, bits-nil, put_bits, put_below, put_fits, give_bits, give_below, low_small, byte_within}
use Rattle.fips204_base.proofs.conversion.write_unpacked_group.Goals as goal
use Rattle.fips204_base.proofs.conversion.write_unpacked_group.Goals.{After-loop-i}

pub loop-i-init : goal.loop-i-init
loop-i-init c = grind (arith, ints, common_steps, digits-zero, bits-nil)

pub bounds-v-at : goal.bounds-v-at
bounds-v-at c = byte_within c.field_width-c.result c.loop-i.i c.loop-have.at c.loop-have.have (length c.args.v.now) c.loop-have.invariant.bits_done (omega arith) (omega arith) (search rules)

pub with_field-word-requires-clause-room : goal.with_field-word-requires-clause-room
with_field-word-requires-clause-room c =
    let byte : get_or c.args.v.now c.loop-have.at 0 < 256 = search rules in
    (omega arith, put_fits 8 c.loop-have.have (get_or c.args.v.now c.loop-have.at 0) byte (omega arith))

pub loop-have-preserved : goal.loop-have-preserved
loop-have-preserved c =
    let n : ℕ = get_or c.args.v.now c.loop-have.at 0 in
    let byte : n < 256 = search rules in
    let room = byte_within c.field_width-c.result c.loop-i.i c.loop-have.at c.loop-have.have (length c.args.v.now) c.loop-have.invariant.bits_done (omega arith) (omega arith) (search rules) in
    record {
      few = omega arith;
      word = rw c.with_field-word.ensures (put_below 8 c.loop-have.have c.loop-have.word n c.loop-have.invariant.word byte);
      bits_done = omega arith;
      so_far =
          rw (take_more c.args.v.now c.loop-have.at 0 room, c.with_field-word.ensures)
          (put_bits (bits c.field_width-c.result (map (field _ _) (take c.loop-i.i c.loop-i.out))) 8 c.loop-have.have c.loop-have.word n (take c.loop-have.at c.args.v.now) c.loop-have.invariant.word c.loop-have.invariant.so_far);
    }

pub coefficient_of-requires-clause-below : goal.coefficient_of-requires-clause-below
coefficient_of-requires-clause-below c = rw c.low.ensures (low_small c.field_width-c.result c.loop-have.word c.field_width-c.ensures.few)

pub loop-i-preserved : goal.loop-i-preserved
loop-i-preserved c =
    let fits : SFits w32 c.coefficient_of.result = search rules in
    let small : c.low.result < 2 ^ width (to_z w32 (of_z w32 c.args.a)) (to_z w32 (of_z w32 c.args.b)) =
    rw (c.low.ensures, ← c.field_width-c.ensures.value) (mod_below c.loop-have.word (2 ^ c.field_width-c.result) (pow_pos c.field_width-c.result)) in
    let new = stored _ _ c.low.result c.loop-i.i c.loop-i.out (to_z w32 (of_z w32 c.coefficient_of.result)) (search rules)
    (to_z-of_z w32 c.coefficient_of.result fits ∙ c.coefficient_of.ensures) small c.loop-i.invariant.fields in
    record {
      long = length-set c.loop-i.out c.loop-i.i _ ∙ c.loop-i.invariant.long;
      few = omega arith;
      word = give_below c.field_width-c.result c.loop-have.have c.loop-have.word (omega arith) c.loop-have.invariant.word;
      bits_done = omega arith;
      so_far = rw (new.0, c.low.ensures) (give_bits c.field_width-c.result c.loop-have.have c.loop-have.word _ _ (omega arith) c.loop-have.invariant.so_far);
      fields = new.1;
    }

-- all bytes are read once all fields are
all_read : (c : After-loop-i) → Packs (width c.args.a c.args.b) c.args.v.now (map (field c.args.a c.args.b) c.loop-i.out) × All (λ x. coefficient c.args.a c.args.b (field c.args.a c.args.b x) ≡ x) c.loop-i.out
all_read c =
    let A = to_z-of_z w32 c.args.a c.ranges.a in
    let B = to_z-of_z w32 c.args.b c.ranges.b in
    let bytes = All-from_get_or (λ (x : ℕ). x < 256) c.args.v.now 0 (λ i h. (c.type_inv.v i).fits) in
    rw (A, B) at (group_finished _ _ c.field_width-c.result c.loop-i.i c.loop-i.have c.loop-i.at c.loop-i.word c.loop-i.out c.args.v.now c.field_width-c.ensures.value (omega arith)
    c.loop-i.invariant.long c.loop-i.invariant.bits_done c.loop-i.invariant.few (c.requires.room ∙ sym (rw (A, B) at c.field_width-c.ensures.value)) bytes c.loop-i.invariant.so_far c.loop-i.invariant.fields)

pub returns-clause-fields : goal.returns-clause-fields
returns-clause-fields c = (all_read (goal.at.returns-clause-fields c).After-loop-i).0

pub returns-clause-coefficients : goal.returns-clause-coefficients
returns-clause-coefficients c = (all_read (goal.at.returns-clause-coefficients c).After-loop-i).1
