-- `tools/sets` made this file from that of 44: edit that one.
use Rattle.mldsa_c.proofs.ml_dsa_65.mldsa65_verify_mu.Goals as goal

pub returns : goal.returns
returns c = (λ _. (c.verify.result, rw c.in-Some.ensures.cases.same at c.verify.ensures, c.verdict_status.ensures), λ differ. absurd (differ c.in-Some.ensures.cases.long))
