use Rattle.std.proofs.Common.{subst, List, ℕ, Result}
use Rattle.mlsign_engine.specs.declared.fault.FileFault.{FileFault}
use Rattle.mlsign_engine.specs.PemReading.{GivesOrFails}
use Rattle.mlsign_engine.proofs.PemFiles.{pem_of_text}
use Rattle.mlsign_engine.proofs.pem.decode.Goals as goal

pub returns-clause-only : goal.returns-clause-only
returns-clause-only c = λ der is.
    subst (λ (read : Result (List ℕ) FileFault). GivesOrFails (λ x. x.items) c.spelled.result read)
    (pem_of_text c.args.text.now c.args.kind der is) c.spelled.ensures.exact
