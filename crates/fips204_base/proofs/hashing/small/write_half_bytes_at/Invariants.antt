use Rattle.std.proofs.Common.{◌++◌, take, nat_abs}
use Rattle.fips204_base.proofs.Names.{kept_half_bytes, Keeps}
use Rattle.fips204_base.proofs.hashing.small.write_half_bytes_at.Given as goal

abbrev pub invariant-loop-byte : goal.invariant-loop-byte
invariant-loop-byte l = Keeps l.values l.count (take l.kept l.fn.values ++ kept_half_bytes (nat_abs l.eta) l.piece l.byte-index)
