use Rattle.fips204.proofs.WholeKeys.{bytes_tell_keys}
use Rattle.fips204.proofs.laws.key_bytes.Goals as goal

pub returns : goal.returns
returns _ = bytes_tell_keys
