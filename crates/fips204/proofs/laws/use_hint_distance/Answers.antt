use Rattle.fips204.proofs.Names.{natural_gamma, use_hint_distance_none, use_hint_distance_hint}
use Rattle.fips204.proofs.laws.use_hint_distance.Goals as goal

pub returns : goal.returns
returns _ = λ g r is below. (use_hint_distance_none g r (natural_gamma g is) below, use_hint_distance_hint g r (natural_gamma g is) below)
