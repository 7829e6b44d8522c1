use Rattle.fips204_shake.proofs.Binding.{signature_binds}
use Rattle.fips204_shake.proofs.bytes.laws.signature_binds.Goals as goal

pub returns : goal.returns
returns c = λ p H G known. signature_binds p H G known c.binding.ensures.hashes c.binding.ensures.inputs c.binding.ensures.keys (c.key_bytes.ensures p known)
