use Rattle.std.proofs.Common.{rules, sym}
use Rattle.fips204.proofs.ml_dsa.decoding.expand_public.Goals as goal

pub returns : goal.returns
returns g c = record {
  parts = record { rho = c.write_public_key_parts.ensures.seed; tr = search rules; t1 = c.write_public_key_parts.ensures.vector };
  encoding = sym c.write_public_key_parts.ensures.same_bytes;
  tr = search rules;
}
