use Rattle.std.proofs.Common.{refl}
use Rattle.fips204_base.proofs.encodings.pk_encode.Goals as goal

pub returns : goal.returns
returns g c = rw (c.copy_from_slice.ensures.after, c.write_packed_vector.ensures) refl
