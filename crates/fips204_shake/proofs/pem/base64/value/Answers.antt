use Rattle.std.proofs.Common.{◌<◌, arith}
use Rattle.fips204_shake.proofs.Base64Symbols.{number_is}
use Rattle.fips204_shake.proofs.pem.base64.value.Goals as goal

pub returns-clause-number : goal.returns-clause-number
returns-clause-number c =
    let small : c.args.byte < 256 = omega arith in
    rw (
      c.is_from.ensures,
      c.is_from-2.ensures,
      c.is_from-3.ensures,
      c.is_from-4.ensures,
      c.is_from-5.ensures,
      c.is_from-6.ensures,
      c.is_from-7.ensures,
      c.is_from-8.ensures,
      c.is_from-9.ensures,
      c.is_from-10.ensures,
    ) (number_is c.args.byte small)
