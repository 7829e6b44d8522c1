use Rattle.fips204_shake.specs.Pem.{Spells}
use Rattle.fips204_shake.proofs.Elements.{gives_found, gives_only}
use Rattle.fips204_shake.proofs.PemTexts.{pem_found, pem_again}
use Rattle.fips204_shake.proofs.pem.read.Goals as goal
use Rattle.std.proofs.Common.{length}

pub returns-clause-found : goal.returns-clause-found
returns-clause-found c =
    gives_found _ c.spelled.result _ (λ y. Spells c.args.text.now c.args.kind y) c.spelled.ensures.exact (pem_found (length c.args.out.now) c.args.kind c.args.text.now)

pub returns-clause-only : goal.returns-clause-only
returns-clause-only c = λ bytes spells fits.
    gives_only _ c.spelled.result _ _ c.spelled.ensures.exact (pem_again (length c.args.out.now) c.args.kind c.args.text.now bytes spells fits)
