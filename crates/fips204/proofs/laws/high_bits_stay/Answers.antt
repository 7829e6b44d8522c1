use Rattle.fips204.proofs.Names.{natural_gamma, high_bits_stay}
use Rattle.fips204.proofs.laws.high_bits_stay.Goals as goal

pub returns : goal.returns
returns _ = λ g r s beta is. high_bits_stay g r s beta (natural_gamma g is)
