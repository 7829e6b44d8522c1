use Rattle.std.proofs.Common.{rules}
use Rattle.fips204_base.proofs.encodings.signature.w1_encode.Goals as goal

pub write_packed_vector-requires : goal.write_packed_vector-requires
write_packed_vector-requires g c = search rules
