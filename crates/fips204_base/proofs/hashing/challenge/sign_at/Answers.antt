use Rattle.std.proofs.Common.{◌∙◌, sym, arith}
use Rattle.fips204_base.proofs.Names.{bit_at, sign-set, sign-clear}
use Rattle.fips204_base.proofs.hashing.challenge.sign_at.Goals as goal

pub returns-then-bit-eq1 : goal.returns-then-bit-eq1
returns-then-bit-eq1 c = sign-set _ (bit_at c.args.bytes.now c.args.k (omega (arith, c.told-bytes)) ∙ c.if-bit-eq1.true)

pub returns-else-bit-eq1 : goal.returns-else-bit-eq1
returns-else-bit-eq1 c =
    let bit = bit_at c.args.bytes.now c.args.k (omega (arith, c.told-bytes)) in
    sign-clear _ (λ e. c.if-bit-eq1.false (sym bit ∙ e))
