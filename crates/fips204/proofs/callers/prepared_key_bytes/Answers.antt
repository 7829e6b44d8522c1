use Rattle.std.proofs.Common.{inl, refl}
use Rattle.fips204.proofs.Names.{set_44, bit_length}
use Rattle.fips204.proofs.callers.prepared_key_bytes.Goals as goal

pub returns-clause-public_length : goal.returns-clause-public_length
returns-clause-public_length g c = (c.prepared_bytes.ensures set_44 g.G.Xof.front (inl refl)).public_length

pub returns-clause-private_length : goal.returns-clause-private_length
unfolding bit_length
returns-clause-private_length g c = (c.prepared_bytes.ensures set_44 g.G.Xof.front (inl refl)).private_length

pub returns-clause-public : goal.returns-clause-public
returns-clause-public g c = (c.prepared_bytes.ensures set_44 g.G.Xof.front (inl refl)).public_keys

pub returns-clause-private : goal.returns-clause-private
returns-clause-private g c = (c.prepared_bytes.ensures set_44 g.G.Xof.front (inl refl)).private_keys
