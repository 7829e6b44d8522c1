use Rattle.fips204_shake.proofs.Base64Symbols.{written_is}
use Rattle.fips204_shake.proofs.pem.base64.symbol.Goals as goal

pub returns : goal.returns
returns c = rw (c.is_from-lower.ensures, c.is_from-digit.ensures, c.is_from-plus.ensures, c.is_from-slash.ensures) (written_is c.args.value c.requires)
