use Rattle.std.proofs.Common.{arith}
use Rattle.std.proofs.lemmas.Grind.{common_steps}
use Rattle.mlsign_engine.specs.Pem.{pem}
use Rattle.mlsign_engine.specs.declared.pem.LineEnd.TheVariants.{Lf}
use Rattle.mlsign_engine.proofs.pem.encode.Goals as goal

pub returns-clause-spelled : goal.returns-clause-spelled
unfolding pem
returns-clause-spelled c = record { ending = Lf; bytes = λ i. omega (arith, c.type_inv.der i); is = grind (arith, common_steps) }
