use Rattle.fips204_base.proofs.Names.{common_steps, ints, take_more, get_or-set_other, zero_at, zero_bits, bits-set, ones-zeros, ones-set, rising}
use Rattle.std.proofs.Common.{rules, arith, sym, length-set}
use Rattle.fips204_base.proofs.conversion.hints.write_ones.Goals as goal
use Rattle.fips204_base.proofs.conversion.hints.write_ones.Goals.{else-k-gt0-via-then-k-gt0+else-places-k, else-k-gt0-via-else-k-gt0}

pub loop-k-init : goal.loop-k-init
loop-k-init c = record {
  size = search rules;
  bits = zero_bits;
  so_far = sym (ones-zeros _ zero_at);
  zeros = λ j h. zero_at j;
}

pub returns-then-places-k : goal.returns-then-places-k
returns-then-places-k c = grind (arith, ints, common_steps, rising)

pub loop-k-preserved : goal.loop-k-preserved
loop-k-preserved c = grind (arith, ints, common_steps, else-k-gt0-via-else-k-gt0, length-set, bits-set, take_more, ones-set, get_or-set_other)
