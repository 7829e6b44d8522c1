use Rattle.std.proofs.Common.{ℕ, List, sym}
use Rattle.fips204.specs.Framing.{plain}
use Rattle.fips204.specs.ParameterSets.{set_44}
use Rattle.mldsa_examples.specs.declared.ledger.TheConstants.{CONTEXT}
use Rattle.mldsa_examples.proofs.ledger.check_all.Goals as goal

pub returns-clause-answer : goal.returns-clause-answer
returns-clause-answer g c =
    let law = c.prepared_keys.ensures set_44 g.H.Xof.front g.G.Xof.front in
    let same = λ (message signature : List ℕ).
    law.verify_inputs c.args.key.now _ signature (plain message CONTEXT.now) (sym c.in_ok-prepare.ensures) in (
      λ yes k below. let fits = c.each_fits.ensures.0 yes k below in record { linked = fits.linked; signed = (same _ _).0 fits.signed },
      λ all. c.each_fits.ensures.1 (λ k below. record { linked = (all k below).linked; signed = (same _ _).1 (all k below).signed }),
    )
