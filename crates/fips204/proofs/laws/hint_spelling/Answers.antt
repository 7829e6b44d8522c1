use Rattle.fips204.proofs.Names.{one_hint, one_spelling, spelling_exists}
use Rattle.fips204.proofs.laws.hint_spelling.Goals as goal

pub returns : goal.returns
returns _ = λ omega' k h. (spelling_exists omega' k h, one_spelling omega' k h, one_hint omega' k h)
