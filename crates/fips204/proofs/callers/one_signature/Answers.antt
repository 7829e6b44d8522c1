use Rattle.std.proofs.Common.{[], arith}
use Rattle.fips204.proofs.callers.one_signature.Goals as goal

pub returns-clause-bytes : goal.returns-clause-bytes
returns-clause-bytes c = λ first second c_tilde z h. (c.signature_spelling.ensures 131072 80 4 4 32 first second c_tilde [] z h [] []).0

pub returns-clause-parts : goal.returns-clause-parts
returns-clause-parts c = λ bytes c_tilde other z h y g one two.
    (c.signature_spelling.ensures 131072 80 4 4 32 bytes bytes c_tilde other z h y g).1 (omega arith) (omega arith) one two
