use Rattle.std.proofs.Common.{refl}
use Rattle.fips204.proofs.Names.{bit_length, sum_below, bit_reversed}
use Rattle.fips204.proofs.laws.constants.Goals as goal

pub returns-clause-values : goal.returns-clause-values
unfolding bit_reversed sum_below
returns-clause-values _ = record {
  q = refl;
  zeta = refl;
  powers = refl;
  d = refl;
  zero_polynomial = refl;
  zero_transform = refl;
  attempts = refl;
  digest_limit = refl;
  sha2 = (refl, refl, refl, refl);
  sha2_512 = (refl, refl);
  sha3 = (refl, refl, refl, refl);
  shake = (refl, refl);
}

pub returns-clause-lengths : goal.returns-clause-lengths
unfolding bit_length
returns-clause-lengths _ = record {
  public_keys = (refl, refl, refl);
  private_keys = (refl, refl, refl);
  signatures = (refl, refl, refl);
}
