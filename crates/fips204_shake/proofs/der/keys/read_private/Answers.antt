use Rattle.fips204_shake.specs.Keys.{IsPrivateFile}
use Rattle.fips204_shake.proofs.Elements.{gives_found, gives_only}
use Rattle.fips204_shake.proofs.KeyFiles.{private_found, private_of_file}
use Rattle.fips204_shake.proofs.der.keys.read_private.Goals as goal

pub returns-clause-found : goal.returns-clause-found
returns-clause-found c =
    gives_found _ c.asymmetric_key.result _ (λ y. IsPrivateFile c.args.der.now y.0 y.1) c.asymmetric_key.ensures (private_found c.args.der.now)

pub returns-clause-only : goal.returns-clause-only
returns-clause-only c = λ algorithm parts file.
    gives_only _ c.asymmetric_key.result _ _ c.asymmetric_key.ensures (private_of_file c.args.der.now algorithm parts file)
