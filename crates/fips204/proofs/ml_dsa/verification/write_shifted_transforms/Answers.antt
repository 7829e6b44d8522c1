use Rattle.std.proofs.Common.{◌∙◌}
use Rattle.fips204.proofs.ml_dsa.verification.write_shifted_transforms.Goals as goal

pub returns : goal.returns
returns g c = λ r n h l. c.write_transforms.ensures r n h l ∙ c.t1_shifted.ensures.values r n h l
