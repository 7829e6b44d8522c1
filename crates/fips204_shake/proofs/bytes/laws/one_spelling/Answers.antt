use Rattle.fips204_shake.proofs.Spellings.{one_spelling}
use Rattle.fips204_shake.proofs.bytes.laws.one_spelling.Goals as goal

pub returns : goal.returns
returns c = λ p H known. one_spelling p H known c.signature_spelling.ensures (c.key_bytes.ensures p known)
