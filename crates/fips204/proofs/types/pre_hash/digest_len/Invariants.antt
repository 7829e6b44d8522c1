use Rattle.std.proofs.Common.{◌≡◌, drop}
use Rattle.fips204.proofs.Names.{digest_length}
use Rattle.fips204.proofs.PreHash.{length_in}
use Rattle.fips204.proofs.types.pre_hash.digest_len.Given as goal

-- none of the hashes so far has this OID
abbrev pub invariant-loop-known : goal.invariant-loop-known
invariant-loop-known l = digest_length l.oid ≡ length_in l.oid (drop l.known-index l.known-items)
