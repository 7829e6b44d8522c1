use Rattle.std.proofs.Common.{◌∙◌, pos, refl, ap, arith, rules}
use Rattle.fips204.proofs.Names.{R, bit_length, get_or_default}
use Rattle.fips204_base.specs.Packing.{polynomial_bytes}
use Rattle.fips204.proofs.callers.unpacked_and_packed.Goals as goal

pub simple_bit_unpack-requires-clause-room : goal.simple_bit_unpack-requires-clause-room
unfolding bit_length
simple_bit_unpack-requires-clause-room c = search rules

pub simple_bit_pack-requires-clause-room : goal.simple_bit_pack-requires-clause-room
unfolding bit_length
simple_bit_pack-requires-clause-room c = refl

pub returns : goal.returns
unfolding bit_length
returns c =
    c.simple_bit_pack.ensures
    ∙ ap (λ (w : R). polynomial_bytes (pos 0) (pos 1023) w.0) c.in_ok-w.ensures.0
    ∙ (c.packing.ensures 0 1023 (omega arith) (omega arith) (omega arith)).bytes c.args.bytes.now (search rules) (λ k d l. rw (← get_or_default c.args.bytes.now k 0 d l) (c.fits-bytes k))
