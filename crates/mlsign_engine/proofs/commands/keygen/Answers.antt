use Rattle.std.proofs.Common.{◌≡◌, Err, rules}
use Rattle.mlsign_engine.proofs.KeyPairs.{generating_fails}
use Rattle.mlsign_engine.proofs.commands.keygen.Goals as goal

pub returns-in_err-pair-clause-fault : goal.returns-in_err-pair-clause-fault
returns-in_err-pair-clause-fault c =
    let is : c.from_residual.result ≡ Err c.in_err-pair.field-0.0 = search rules in
    rw is (generating_fails c.args.algorithm c.signed_is_accepted.ensures c.args.seed.now _ (rw c.as_slice.ensures at c.in_err-pair.ensures.fault))
