use Rattle.fips204.proofs.Names.{natural_gamma, use_hint_of_make_hint}
use Rattle.fips204.proofs.laws.use_hint_of_make_hint.Goals as goal

pub returns : goal.returns
returns _ = λ g z r is. use_hint_of_make_hint g z r (natural_gamma g is)
