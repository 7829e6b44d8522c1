use Rattle.fips204_shake.proofs.Errors.{errors_leave}
use Rattle.fips204_shake.proofs.bytes.laws.errors_leave_arrays.Goals as goal

pub returns : goal.returns
returns _ = errors_leave
