use Rattle.std.proofs.Common.{rules, arith, ◌≡◌, ◌∙◌, ◌-◌, length, Ok, Some, sym, ap, refl, nat_abs, w32, nat_lt}
use Rattle.fips204.proofs.Names.{to_z-of_z, ints, lt-leb, le-leb, all_ones, vector_norm, vector_coefficients, response, low_vector, ct0, hint_vector, set_of}
use Rattle.fips204.proofs.RejectionChecks.{IsDifference, multiple-equal, by_tests, response-is, difference-is, low-is, ct0-is, hint-is, response-range, hint-range}
use Rattle.fips204.proofs.ParameterSets.{limits, rounding-some, signature-shape}
use Rattle.fips204.proofs.ml_dsa.signing.SigningKey.finish_attempt.Given.{Over}
use Rattle.fips204.proofs.ml_dsa.signing.SigningKey.finish_attempt.Goals as goal
use Rattle.fips204.proofs.ml_dsa.signing.SigningKey.finish_attempt.Goals.{After-has_norm_below, After-has_norm_below-2, After-has_norm_below-3, After-number_of_ones}

-- v is w - c s2, and what the test of its low bits says
difference-here : (g : Over) (c : After-has_norm_below g) → IsDifference g.row.K c.self.inside.key.now (vector_coefficients c.args.w.now) c.args.c.now c.write_difference.new.w
difference-here g c =
    difference-is g.row.K c.self.inside.key.now (vector_coefficients c.args.w.now) c.args.c.now c.write_first.new.out c.write_difference.new.w
    (multiple-equal c.of-c_hat.result c.args.c.now c.write_first.new.out c.self.inside.transforms.now.s2_hat c.self.inside.key.now.s2 g.row.K c.of-c_hat.ensures c.self.invariant.1.second (rw c.of-products.ensures at c.write_first.ensures.value)) c.write_difference.ensures.values

first : (g : Over) (c : After-has_norm_below g) → c.has_norm_below.result ≡ nat_lt (vector_norm (low_vector (set_of c.args.p.now) c.self.inside.key.now (vector_coefficients c.args.w.now) c.args.c.now)) (nat_abs c.args.p.now.gamma2 - nat_abs c.args.p.now.beta)
first g c =
    let p = c.args.p.now in
    let low = (rw (to_z-of_z w32 p.gamma2 (search rules)) at c.write_low_vector.ensures.value) ∙ low-is (set_of p) c.self.inside.key.now (vector_coefficients c.args.w.now) c.args.c.now _ g.row.K c.requires.inputs.sizes.rows (difference-here g c) in
    rw (low, c.r0_bound.ensures) at c.has_norm_below.ensures

-- z is y + c s1, and what the test of its norm says
response-here : (g : Over) (c : After-has_norm_below-2 g) → c.write_centred_sum.new.z ≡ response (set_of c.args.p.now) c.self.inside.key.now c.args.y.now c.args.c.now
response-here g c =
    response-is (set_of c.args.p.now) c.self.inside.key.now c.args.y.now c.write_second.new.out c.write_centred_sum.new.z c.args.c.now g.row.L c.requires.inputs.sizes.columns
    (multiple-equal c.of-c_hat.result c.args.c.now c.write_second.new.out c.self.inside.transforms.now.s1_hat c.self.inside.key.now.s1 g.row.L c.of-c_hat.ensures c.self.invariant.1.first (rw (c.write_first.ensures.kept, c.of-products.ensures) at c.write_second.ensures.value)) c.write_centred_sum.ensures.value

second : (g : Over) (c : After-has_norm_below-2 g) → c.has_norm_below-2.result ≡ nat_lt (vector_norm (response (set_of c.args.p.now) c.self.inside.key.now c.args.y.now c.args.c.now)) (nat_abs c.args.p.now.gamma1 - nat_abs c.args.p.now.beta)
second g c = rw (response-here g c, c.z_bound.ensures) at c.has_norm_below-2.ensures

-- c t0, and what the test of its norm says
third : (g : Over) (c : After-has_norm_below-3 g) → c.has_norm_below-3.result ≡ nat_lt (vector_norm (ct0 (set_of c.args.p.now) c.self.inside.key.now c.args.c.now)) (nat_abs c.args.p.now.gamma2)
third g c =
    let t = ct0-is (set_of c.args.p.now) c.self.inside.key.now c.args.c.now _ g.row.K c.requires.inputs.sizes.rows
    (multiple-equal c.of-c_hat.result c.args.c.now c.write_other.new.out c.self.inside.transforms.now.t0_hat c.self.inside.key.now.t0 g.row.K c.of-c_hat.ensures c.self.invariant.1.low (rw (c.write_second.ensures.kept, c.write_first.ensures.kept, c.of-products.ensures) at c.write_other.ensures.value)) in
    rw (t, to_z-of_z w32 c.args.p.now.gamma2 (search rules)) at c.has_norm_below-3.ensures

-- the hint, and how many ones it has
hint-here : (g : Over) (c : After-number_of_ones g) → c.write_hint.new.t ≡ hint_vector (set_of c.args.p.now) c.self.inside.key.now (vector_coefficients c.args.w.now) c.args.c.now
hint-here g c =
    let p = c.args.p.now in
    hint-is (set_of p) c.self.inside.key.now (vector_coefficients c.args.w.now) c.args.c.now c.write_difference.new.w c.write_other.new.out _ g.row.K c.requires.inputs.sizes.rows
    (difference-is g.row.K c.self.inside.key.now (vector_coefficients c.args.w.now) c.args.c.now c.write_first.new.out c.write_difference.new.w
    (multiple-equal c.of-c_hat.result c.args.c.now c.write_first.new.out c.self.inside.transforms.now.s2_hat c.self.inside.key.now.s2 g.row.K c.of-c_hat.ensures c.self.invariant.1.second (rw c.of-products.ensures at c.write_first.ensures.value)) c.write_difference.ensures.values)
    (multiple-equal c.of-c_hat.result c.args.c.now c.write_other.new.out c.self.inside.transforms.now.t0_hat c.self.inside.key.now.t0 g.row.K c.of-c_hat.ensures c.self.invariant.1.low (rw (c.write_second.ensures.kept, c.write_first.ensures.kept, c.of-products.ensures) at c.write_other.ensures.value)) (rw (to_z-of_z w32 p.gamma2 (search rules)) at c.write_hint.ensures)

pub write_low_vector-requires : goal.write_low_vector-requires
write_low_vector-requires g c = (search rules, (rw (to_z-of_z w32 c.args.p.now.gamma2 (search rules)) (limits c.args.p.now (search rules)).rounding, c.write_difference.ensures.range))

pub overflow_cast-p : goal.overflow_cast-p
overflow_cast-p g c = omega (arith, ints, rounding-some c.args.p.now.gamma2 (limits c.args.p.now (search rules)).rounding)

pub write_hint-requires : goal.write_hint-requires
write_hint-requires g c =
    (search rules, (rw (to_z-of_z w32 c.args.p.now.gamma2 (search rules)) (limits c.args.p.now (search rules)).rounding, (c.write_difference.ensures.range, c.write_other.ensures.range)))

pub overflow_cast-p-2 : goal.overflow_cast-p-2
overflow_cast-p-2 g c = omega (arith, ints, (limits c.args.p.now (search rules)).some_ones)

pub returns-then-not-has_norm_below-clause-answer : goal.returns-then-not-has_norm_below-clause-answer
returns-then-not-has_norm_below-clause-answer g c =
    let at = goal.at.returns-then-not-has_norm_below-clause-answer g c in
    rw (sym c.self.view_is) (by_tests _ _ _ _ _ _
    (sym c.if-not-has_norm_below.true ∙ first g at.After-has_norm_below) refl refl refl)

pub returns-then-not-has_norm_below-2-clause-answer : goal.returns-then-not-has_norm_below-2-clause-answer
returns-then-not-has_norm_below-2-clause-answer g c =
    let at = goal.at.returns-then-not-has_norm_below-2-clause-answer g c in
    rw (sym c.self.view_is) (by_tests _ _ _ _ _ _
    (sym c.if-not-has_norm_below.false ∙ first g at.After-has_norm_below) (sym c.if-not-has_norm_below-2.true ∙ second g at.After-has_norm_below-2) refl refl)

pub returns-then-not-has_norm_below-3-clause-answer : goal.returns-then-not-has_norm_below-3-clause-answer
returns-then-not-has_norm_below-3-clause-answer g c =
    let at = goal.at.returns-then-not-has_norm_below-3-clause-answer g c in
    rw (sym c.self.view_is) (by_tests _ _ _ _ _ _
    (sym c.if-not-has_norm_below.false ∙ first g at.After-has_norm_below) (sym c.if-not-has_norm_below-2.false ∙ second g at.After-has_norm_below-2)
    (sym c.if-not-has_norm_below-3.true ∙ third g at.After-has_norm_below-3) refl)

pub returns-then-number_of_ones-p-clause-answer : goal.returns-then-number_of_ones-p-clause-answer
returns-then-number_of_ones-p-clause-answer g c =
    let at = goal.at.returns-then-number_of_ones-p-clause-answer g c in
    let count = c.number_of_ones.ensures ∙ ap (λ h. length (all_ones h)) (hint-here g at.After-number_of_ones) in
    rw (sym c.self.view_is) (by_tests _ _ _ _ _ _
    (sym c.if-not-has_norm_below.false ∙ first g at.After-has_norm_below) (sym c.if-not-has_norm_below-2.false ∙ second g at.After-has_norm_below-2)
    (sym c.if-not-has_norm_below-3.false ∙ third g at.After-has_norm_below-3) (sym (lt-leb _ _ (rw (to_z-of_z w32 c.args.p.now.omega (search rules), count) at c.if-number_of_ones-p.true))))

pub write_encoded_signature-requires : goal.write_encoded_signature-requires
write_encoded_signature-requires g c =
    let p = c.args.p.now in
    let at = goal.at.write_encoded_signature-requires g c in
    let gamma1 = to_z-of_z w32 p.gamma1 (search rules) in
    let shape = signature-shape p _ _ _ _ _ _ (search rules) c.requires.inputs.sizes c.requires.inputs.commitment gamma1 (to_z-of_z w32 p.omega (search rules)) in
    let test = sym c.if-not-has_norm_below-2.false ∙ (rw c.z_bound.ensures at c.has_norm_below-2.ensures) in
    let response = response-range p _ _ _ _ _ (search rules) gamma1 (response-here g at.After-has_norm_below-2) test in
    let few = rw c.number_of_ones.ensures at c.if-number_of_ones-p.false in
    let room : length c.args.signature.now ≡ g.row.SIG_LEN = search rules in
    (search rules, (search rules, (shape.set, (shape.some, (shape.hint_size, (room ∙ shape.whole, (response, (hint-range _ _ _ _ _ c.write_hint.ensures, few))))))))

pub returns-clause-answer : goal.returns-clause-answer
returns-clause-answer g c =
    let at = goal.at.returns-clause-answer g c in
    let omega_is = to_z-of_z w32 c.args.p.now.omega (search rules) in
    let hint = hint-here g at.After-number_of_ones in
    let count = c.number_of_ones.ensures ∙ ap (λ h. length (all_ones h)) hint in
    rw (sym c.self.view_is) (ap (λ s. Ok (Some s)) (rw (to_z-of_z w32 c.args.p.now.gamma1 (search rules), omega_is, response-here g at.After-has_norm_below-2, hint) at c.write_encoded_signature.ensures)
    ∙ by_tests _ _ _ _ _ _
    (sym c.if-not-has_norm_below.false ∙ first g at.After-has_norm_below) (sym c.if-not-has_norm_below-2.false ∙ second g at.After-has_norm_below-2)
    (sym c.if-not-has_norm_below-3.false ∙ third g at.After-has_norm_below-3) (sym (le-leb _ _ (rw (omega_is, count) at c.if-number_of_ones-p.false))))
