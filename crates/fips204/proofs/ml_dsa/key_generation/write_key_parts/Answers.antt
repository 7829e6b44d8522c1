use Rattle.std.proofs.Common.{rules}
use Rattle.fips204.proofs.Names.{vector-within, set_of}
use Rattle.fips204.proofs.ParameterSets.{eta-small, matrix-shape}
use Rattle.fips204.proofs.KeyGeneration.{key_parts-are, high_part-range, low_part-range}
use Rattle.fips204.proofs.ml_dsa.key_generation.write_key_parts.Goals as goal

pub write_key_vector-requires : goal.write_key_vector-requires
write_key_vector-requires g c =
    let shape = matrix-shape c.args.p.now g.row.K g.row.L (search rules) c.requires.rows c.requires.columns in
    let eta = eta-small c.args.p.now (search rules) in
    (search rules, (search rules, (shape.1, (vector-within _ _ _ _ _ eta eta c.requires.first, vector-within _ _ _ _ _ eta eta c.requires.second))))

pub returns : goal.returns
returns g c =
    let sampled = c.in_ok-write_key_vector.ensures.values in
    let parts = key_parts-are (set_of c.args.p.now) sampled.0 c.args.s1.now c.args.s2.now c.write_key_vector.new.t c.write_power2round.new.high c.write_power2round.new.r g.row.K g.row.L
    c.requires.rows c.requires.columns sampled.2 c.write_power2round.ensures.high c.write_power2round.ensures.low in
    record {
      values = (sampled.0, rw (c.requires.rows, c.requires.columns) at sampled.1, parts);
      high = rw (parts.0, c.requires.rows) (high_part-range (set_of c.args.p.now) sampled.0 c.args.s1.now c.args.s2.now);
      low = rw (parts.1, c.requires.rows) (low_part-range (set_of c.args.p.now) sampled.0 c.args.s1.now c.args.s2.now);
    }
