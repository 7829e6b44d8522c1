use Rattle.mldsa_examples.proofs.manifest.handed_out.Goals as goal

pub returns-then-not-hash_verify : goal.returns-then-not-hash_verify
returns-then-not-hash_verify g c out =
    let says = rw c.digest_of.ensures.digest at c.hash_verify.ensures in
    absurd (cc (c.if-not-hash_verify.true, says.1 out.signed))
