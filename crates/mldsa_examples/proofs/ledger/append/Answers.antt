use Rattle.std.proofs.Common.{ℕ, List, refl, rules}
use Rattle.fips204.specs.ParameterSets.{set_44}
use Rattle.fips204.specs.Refusals.{VerifiesInput}
use Rattle.fips204.specs.Framing.{plain}
use Rattle.mldsa_examples.specs.declared.ledger.TheConstants.{CONTEXT}
use Rattle.mldsa_examples.proofs.Ledgers.{still_stands}
use Rattle.mldsa_examples.proofs.ledger.append.Goals as goal

pub returns-in-Ok-push-clause-stands : goal.returns-in-Ok-push-clause-stands
returns-in-Ok-push-clause-stands g c key whole derives stood =
    let accepts = λ (message signature : List ℕ). VerifiesInput set_44 g.H.Xof.front g.G.Xof.front key signature (plain message CONTEXT.now) in
    let signed = rw c.signed_bytes-bytes.ensures at c.in-Ok.ensures.accepted key c.in-Ok.signature whole derives refl in
    rw c.in-Ok-push.ensures.items (still_stands accepts c.args.ledger.now.items _ (search rules) signed stood)
