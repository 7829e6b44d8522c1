use Rattle.std.proofs.Common.{◌≡◌, length}
use Rattle.fips204_shake.specs.PemReading.{from_first}
use Rattle.fips204_shake.proofs.pem.from_first.Given as goal

-- the bytes are nowhere before the rest
abbrev pub invariant-loop-rest : goal.invariant-loop-rest
invariant-loop-rest l = from_first l.front l.rest ≡ from_first l.front l.text

abbrev pub decreases-loop-rest : goal.decreases-loop-rest
decreases-loop-rest l = length l.rest
