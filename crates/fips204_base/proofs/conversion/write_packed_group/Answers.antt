use Rattle.fips204_base.proofs.Names.{common_steps, to_z-of_z, ints, map_more, take_more_set, take_all, and_mask, fields_fit, All-nil, All-push}
use Rattle.std.proofs.Common.{arith, ℕ, ◌≡◌, ◌<◌, ◌%◌, ◌^◌, length, take, bit_and, ◌∙◌, length-set, append-nil, SFits}
use Rattle.fips204_base.proofs.Bits.{digits-zero, bits-nil, put_bits, put_below, put_fits, give_bits, give_below, place_within}
use Rattle.fips204_base.proofs.conversion.write_packed_group.Goals as goal

pub loop-x-init : goal.loop-x-init
loop-x-init c = grind (arith, ints, common_steps, digits-zero, bits-nil, All-nil)

pub with_field-word-requires-clause-room : goal.with_field-word-requires-clause-room
with_field-word-requires-clause-room c = grind (arith, ints, common_steps, to_z-of_z, put_fits)

pub overflow_add-have : goal.overflow_add-have
overflow_add-have c = record { fits = omega arith }

pub loop-have-init : goal.loop-have-init
loop-have-init c = grind (arith, ints, common_steps, SFits, to_z-of_z, put_below, map_more, put_bits)

pub bounds-out-at : goal.bounds-out-at
bounds-out-at c = place_within c.field_width-c.result c.loop-x.x-index c.loop-have.at c.loop-have.have (length c.loop-have.out) c.loop-have.invariant.bits_done (omega arith) (omega arith) c.loop-have.invariant.long

pub loop-have-preserved : goal.loop-have-preserved
loop-have-preserved c =
    let low : bit_and c.loop-have.word 255 ≡ c.loop-have.word % 2 ^ 8 = and_mask c.loop-have.word 8 in
    let room : c.loop-have.at < length c.loop-have.out = place_within c.field_width-c.result c.loop-x.x-index c.loop-have.at c.loop-have.have (length c.loop-have.out) c.loop-have.invariant.bits_done (omega arith) (omega arith) c.loop-have.invariant.long in
    record {
      long = length-set c.loop-have.out c.loop-have.at (bit_and c.loop-have.word 255) ∙ c.loop-have.invariant.long;
      few = omega arith;
      word = give_below 8 c.loop-have.have c.loop-have.word (omega arith) c.loop-have.invariant.word;
      bits_done = omega arith;
      so_far = rw (take_more_set c.loop-have.out c.loop-have.at (bit_and c.loop-have.word 255) room, low)
          (give_bits 8 c.loop-have.have c.loop-have.word (take c.loop-have.at c.loop-have.out) _ (omega arith) c.loop-have.invariant.so_far);
      whole = rw (take_more_set c.loop-have.out c.loop-have.at (bit_and c.loop-have.word 255) room)
          (All-push (λ (byte : ℕ). byte < 256) (take c.loop-have.at c.loop-have.out) (bit_and c.loop-have.word 255) c.loop-have.invariant.whole (omega (arith, low)));
    }

pub returns : goal.returns
returns c = grind (arith, ints, common_steps, to_z-of_z, take_all, digits-zero, append-nil, fields_fit)
