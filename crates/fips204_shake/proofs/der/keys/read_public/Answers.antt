use Rattle.fips204_shake.specs.Keys.{IsPublicFile}
use Rattle.fips204_shake.proofs.Elements.{gives_found, gives_only}
use Rattle.fips204_shake.proofs.KeyFiles.{public_found, public_of_file}
use Rattle.fips204_shake.proofs.der.keys.read_public.Goals as goal

pub returns-clause-found : goal.returns-clause-found
returns-clause-found c =
    gives_found _ c.public_key_info.result _ (λ y. IsPublicFile c.args.der.now y.0 y.1) c.public_key_info.ensures (public_found c.args.der.now)

pub returns-clause-only : goal.returns-clause-only
returns-clause-only c = λ algorithm bytes file.
    gives_only _ c.public_key_info.result _ _ c.public_key_info.ensures (public_of_file c.args.der.now algorithm bytes file)
