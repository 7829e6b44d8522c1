-- `tools/sets` made this file from that of 44: edit that one.
use Rattle.mldsa_c.proofs.prepared_65.mldsa65_verify_mu_prepared.Goals as goal

pub returns : goal.returns
returns c = (λ _. (c.verify_prepared.result, rw c.in-Some.ensures.cases.same at c.verify_prepared.ensures, c.verdict_status.ensures), λ differ. absurd (differ c.in-Some.ensures.cases.long))
