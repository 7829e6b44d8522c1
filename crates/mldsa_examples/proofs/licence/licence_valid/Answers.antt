use Rattle.std.proofs.Common.{rules}
use Rattle.mldsa_examples.proofs.licence.licence_valid.Goals as goal

pub returns-then-today-token : goal.returns-then-today-token
returns-then-today-token g c =
    let says = rw c.spelled.ensures.bytes at c.verify.ensures in
    (λ yes. record { signed = says.0 yes; in_time = search rules }, λ valid. says.1 valid.signed)
