use Rattle.std.proofs.Common.{rules, ℕ, ◌<◌, ◌≡◌, ◌∙◌, ap, sym, subst, nat_abs, pos, arith, w32, Ok, Err, ok_or}
use Rattle.fips204.proofs.Names.{to_z-of_z, length-take-le, SamplingLimit, challenge, mask, matrix_product, vector_coefficients, vector_of, VectorWithin, coefficient_of, high_bits, some_of_ok, none_of_err, attempt, checked_attempt, PreparedPrivate, set_of}
use Rattle.fips204.proofs.Attempts.{attempt-is, checked_attempt-limit, mask-within, high-range}
use Rattle.fips204.proofs.ParameterSets.{limits, matrix-shape}
use Rattle.fips204.proofs.Ranges.{challenge-reduced}
use Rattle.fips204.proofs.ml_dsa.signing.SigningKey.attempt.Given.{Over}
use Rattle.fips204.proofs.ml_dsa.signing.SigningKey.attempt.Goals as goal
use Rattle.fips204.proofs.ml_dsa.signing.SigningKey.attempt.Goals.{After-expand_mask-y, After-write_commitment_hash}

small : (g : Over) (c : After-expand_mask-y g) → VectorWithin g.row.L 524288 c.expand_mask-y.result
small g c =
    let p = c.args.p.now in
    mask-within p.gamma1 g.H.Xof.front c.args.mask_seed.now g.row.L c.args.kappa c.expand_mask-y.result (limits p (search rules)).mask (rw (to_z-of_z w32 p.gamma1 (search rules)) at c.expand_mask-y.ensures)

-- the attempt by its parts
whole : (g : Over) (c : After-write_commitment_hash g) → attempt (set_of c.args.p.now) g.H.Xof.front c.args.self.now.matrix c.args.self.now.parts c.args.mu.now c.args.mask_seed.now c.args.kappa
    ≡ checked_attempt (set_of c.args.p.now) c.args.self.now.parts c.expand_mask-y.result (vector_coefficients c.write_matrix_product.new.out) c.write_commitment_hash.new.c_tilde
    (challenge (nat_abs c.args.p.now.tau) (g.H.Xof.front c.write_commitment_hash.new.c_tilde))
whole g c =
    let p = c.args.p.now in
    let y : c.expand_mask-y.result ≡ mask (nat_abs p.gamma1) g.H.Xof.front c.args.mask_seed.now g.row.L c.args.kappa = rw (to_z-of_z w32 p.gamma1 (search rules)) at c.expand_mask-y.ensures in
    let w1 : c.write_high_vector.new.out ≡ vector_of g.row.K (λ r n. pos (high_bits (nat_abs p.gamma2) (vector_coefficients c.write_matrix_product.new.out r n))) = rw (to_z-of_z w32 p.gamma2 (search rules)) at c.write_high_vector.ensures in
    let values = subst (λ (k : PreparedPrivate). (r n : ℕ) → r < g.row.K → n < 256 → coefficient_of c.write_matrix_product.new.out r n ≡ pos (matrix_product g.row.L k.matrix (vector_coefficients c.expand_mask-y.result) r n)) c.self.view_is c.write_matrix_product.ensures.values in
    attempt-is (set_of p) g.H.Xof.front c.args.self.now.matrix c.args.self.now.parts c.args.mu.now c.args.mask_seed.now c.args.kappa g.row.K g.row.L c.expand_mask-y.result c.write_matrix_product.new.out
    c.write_high_vector.new.out c.write_commitment_hash.new.c_tilde c.requires.inputs.sizes.rows c.requires.inputs.sizes.columns y values w1 c.write_commitment_hash.ensures

pub expand_mask-y-requires : goal.expand_mask-y-requires
expand_mask-y-requires g c =
    let p = c.args.p.now in
    rw (to_z-of_z w32 p.gamma1 (search rules)) (search rules, ((limits p (search rules)).mask, c.requires.inputs.counter))

pub write_matrix_product-requires : goal.write_matrix_product-requires
write_matrix_product-requires g c =
    let mask = small g (goal.at.write_matrix_product-requires g c).After-expand_mask-y in
    let few = (matrix-shape c.args.p.now g.row.K g.row.L (search rules) c.requires.inputs.sizes.rows c.requires.inputs.sizes.columns).1 in
    (search rules, (search rules, (search rules, (search rules, (few, (c.self.invariant.0, λ r n h l. (let x = mask r n h l in omega (arith, x))))))))

pub write_high_vector-requires : goal.write_high_vector-requires
write_high_vector-requires g c =
    let p = c.args.p.now in
    rw (to_z-of_z w32 p.gamma2 (search rules)) (omega (arith, c.requires.inputs.sizes.rows, (limits c.args.p.now (search rules)).few_rows), ((limits p (search rules)).rounding, c.write_matrix_product.ensures.range))

pub write_commitment_hash-requires : goal.write_commitment_hash-requires
write_commitment_hash-requires g c =
    let p = c.args.p.now in
    let w1 : c.write_high_vector.new.out ≡ vector_of g.row.K (λ r n. pos (high_bits (nat_abs p.gamma2) (vector_coefficients c.write_matrix_product.new.out r n))) = rw (to_z-of_z w32 p.gamma2 (search rules)) at c.write_high_vector.ensures in
    (omega (arith, c.requires.inputs.sizes.rows, (limits c.args.p.now (search rules)).few_rows), (c.requires.inputs.sizes.rows, (length-take-le _ _ (omega (arith, c.c_tilde_len.ensures.few)) ∙ c.c_tilde_len.ensures.size, high-range p.gamma2 g.row.K c.write_matrix_product.new.out c.write_high_vector.new.out (limits p (search rules)).rounding w1)))

pub sample_in_ball-requires : goal.sample_in_ball-requires
sample_in_ball-requires g c =
    let known = limits c.args.p.now (search rules) in
    rw (to_z-of_z w32 c.args.p.now.tau (search rules)) record { tau = (known.some_signs, known.few_signs) }

pub returns-in_err-c-clause-answer : goal.returns-in_err-c-clause-answer
returns-in_err-c-clause-answer g c =
    let p = c.args.p.now in
    let front = g.H.Xof.front c.write_commitment_hash.new.c_tilde in
    let sampled : Err c.in_err-c.field-0.0 ≡ ok_or (challenge (nat_abs p.tau) front) SamplingLimit = rw (to_z-of_z w32 p.tau (search rules)) at c.in_err-c.ensures in
    let none = (none_of_err (challenge (nat_abs p.tau) front) c.in_err-c.field-0.0 sampled).0 in
    let refused : c.from_residual.result ≡ Err SamplingLimit = search rules in
    rw refused (sym (whole g (goal.at.returns-in_err-c-clause-answer g c).After-write_commitment_hash ∙ checked_attempt-limit (set_of p) c.args.self.now.parts c.expand_mask-y.result (vector_coefficients c.write_matrix_product.new.out) c.write_commitment_hash.new.c_tilde _ none))

pub finish_attempt-requires : goal.finish_attempt-requires
finish_attempt-requires g c =
    let p = c.args.p.now in
    let front = g.H.Xof.front c.write_commitment_hash.new.c_tilde in
    let sampled : Ok c.in_ok-c.c ≡ ok_or (challenge (nat_abs p.tau) front) SamplingLimit = rw (to_z-of_z w32 p.tau (search rules)) at c.in_ok-c.ensures in
    let reduced = challenge-reduced (nat_abs p.tau) front c.in_ok-c.c (some_of_ok (challenge (nat_abs p.tau) front) c.in_ok-c.c sampled) in
    let mask = small g (goal.at.finish_attempt-requires g c).After-expand_mask-y in
    let few = (matrix-shape p g.row.K g.row.L (search rules) c.requires.inputs.sizes.rows c.requires.inputs.sizes.columns).1 in
    let known = limits p (search rules) in (
      search rules,
      (
        omega (arith, few.1),
        (
          omega (arith, few.0),
          (
            search rules,
            record {
              sizes = c.requires.inputs.sizes;
              commitment = c.write_commitment_hash.auto.c_tilde ∙ length-take-le _ _ (omega (arith, c.c_tilde_len.ensures.few)) ∙ c.c_tilde_len.ensures.size;
              some_rows = rw c.requires.inputs.sizes.rows known.some_rows;
              few_rows = few.0;
              some_columns = rw c.requires.inputs.sizes.columns known.some_columns;
              few_columns = few.1;
              mask = mask;
              product = c.write_matrix_product.ensures.range;
              challenge = reduced;
            },
          ),
        ),
      ),
    )

pub returns-clause-answer : goal.returns-clause-answer
returns-clause-answer g c =
    let p = c.args.p.now in
    let front = g.H.Xof.front c.write_commitment_hash.new.c_tilde in
    let sampled : Ok c.in_ok-c.c ≡ ok_or (challenge (nat_abs p.tau) front) SamplingLimit = rw (to_z-of_z w32 p.tau (search rules)) at c.in_ok-c.ensures in
    let there = some_of_ok (challenge (nat_abs p.tau) front) c.in_ok-c.c sampled in
    c.finish_attempt.ensures.answer
    ∙ sym (whole g (goal.at.returns-clause-answer g c).After-write_commitment_hash ∙ ap (checked_attempt (set_of p) c.args.self.now.parts c.expand_mask-y.result (vector_coefficients c.write_matrix_product.new.out) c.write_commitment_hash.new.c_tilde) there)

pub returns-clause-kept : goal.returns-clause-kept
returns-clause-kept g c = λ rejected. c.finish_attempt.ensures.kept (λ yes. rejected (ap Ok yes))
