use Rattle.std.proofs.Common.{rules, ◌∙◌, w32}
use Rattle.fips204.proofs.Names.{to_z-of_z}
use Rattle.fips204.proofs.RejectionChecks.{low_bits-small}
use Rattle.fips204.proofs.ml_dsa.signing.fn.write_low_vector.write_zip_vectors.Goals as goal

pub returns : goal.returns
returns c =
    let gamma2 = to_z-of_z w32 c.captures.gamma2 (search rules) in
    let x = to_z-of_z w32 c.args.x c.ranges.x in
    let value = to_z-of_z w32 c.low_bits.result (search rules) ∙ (rw (gamma2, x) at c.low_bits.ensures) in
    record { value = value; small = rw value (low_bits-small c.captures.gamma2 c.args.x c.requires.0) }
