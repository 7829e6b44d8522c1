use Rattle.std.proofs.Common.{arith, rules, to_z, of_z}
use Rattle.fips204_base.proofs.Names.{w32, ints, montgomery_congruent}
use Rattle.fips204_base.proofs.helpers.reduce.mont_reduce.Goals as goal

pub returns-clause-value : goal.returns-clause-value
returns-clause-value c = record {
  factor = c.signed_factor-factor.result;
  sum = omega (arith, ints, c.high_word.ensures);
  low = search rules;
  high = search rules;
}

pub returns-clause-congruent : goal.returns-clause-congruent
returns-clause-congruent c = montgomery_congruent c.args.a (to_z w32 (of_z w32 c.high_word.result)) c.signed_factor-factor.result (omega (arith, ints, c.high_word.ensures))
