use Rattle.std.proofs.Common.{inl, refl}
use Rattle.fips204.proofs.Names.{set_44}
use Rattle.fips204.proofs.callers.one_key.Goals as goal

pub returns-clause-private : goal.returns-clause-private
returns-clause-private c = (c.key_bytes.ensures set_44 (inl refl)).private_keys

pub returns-clause-public : goal.returns-clause-public
returns-clause-public c = (c.key_bytes.ensures set_44 (inl refl)).public_keys
