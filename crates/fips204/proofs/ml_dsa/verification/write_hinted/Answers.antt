use Rattle.std.proofs.Common.{rules, ◌≡◌, pos, nat_abs, to_z, of_z, w32, int_lt}
use Rattle.fips204.proofs.Names.{vector_coefficients, coefficient_of, use_hint, set_of}
use Rattle.fips204.proofs.ParameterSets.{limits, rounding-size}
use Rattle.fips204.proofs.Verification.{hint-bit, hinted-is, hinted-range}
use Rattle.fips204.proofs.ml_dsa.verification.write_hinted.Goals as goal

pub write_zip_vectors-requires : goal.write_zip_vectors-requires
write_zip_vectors-requires g c =
    let p = c.args.p.now in
    let G : to_z w32 (of_z w32 p.gamma2) ≡ p.gamma2 = search rules in
    let known = limits p (search rules) in
    (search rules, λ r n h l. (rw G known.rounding, c.requires.range r n h l, hint-bit g.row.K c.args.h.now r n c.requires.hint h l))

pub returns : goal.returns
returns g c =
    let p = c.args.p.now in
    let G : to_z w32 (of_z w32 p.gamma2) ≡ p.gamma2 = search rules in
    let w1 = hinted-is (set_of p) c.args.h.now c.args.w.now c.write_zip_vectors.new.v g.row.K c.requires.rows
    (c.write_zip_vectors.ensures.whole (λ r n. pos (use_hint (nat_abs p.gamma2) (int_lt (pos 0) (coefficient_of c.args.h.now r n)) (vector_coefficients c.args.w.now r n))) (λ r n y l m post. rw G at post)) in
    record {
      values = w1;
      range = hinted-range (set_of p) c.args.h.now c.args.w.now c.write_zip_vectors.new.v (rounding-size p.gamma2 (limits p (search rules)).rounding) w1;
    }
