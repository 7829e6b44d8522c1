use Rattle.std.proofs.Common.{rules, arith, ◌≡◌, ◌≤◌, ◌∙◌, ℕ, List, None, ap, sym, true≢false, nat_abs, to_z, of_z, w32}
use Rattle.fips204.proofs.Names.{ltb-true, lt-ltb, none-some, challenge, IsSignature, same_signature, some_of_ok, none_of_err, c_tilde_length, set_of}
use Rattle.fips204.proofs.ParameterSets.{limits, mask-size, signature-shape}
use Rattle.fips204.proofs.Ranges.{challenge-reduced}
use Rattle.fips204.proofs.Verification.{response-within, same_norm}
use Rattle.fips204.proofs.ml_dsa.verification.open_signature.Given.{Over}
use Rattle.fips204.proofs.ml_dsa.verification.open_signature.Goals.{After-has_norm_below}
use Rattle.fips204.proofs.ml_dsa.verification.open_signature.Goals as goal

pub write_signature_parts-requires : goal.write_signature_parts-requires
write_signature_parts-requires g c =
    let p = c.args.p.now in
    let M : to_z w32 (of_z w32 p.gamma1) ≡ p.gamma1 = search rules in
    let O : to_z w32 (of_z w32 p.omega) ≡ p.omega = search rules in
    let shape = signature-shape p _ _ _ _ _ _ (search rules) c.requires.sizes c.c_tilde_len.ensures.size M O in
    (search rules, (search rules, (shape.set, (shape.some, (shape.hint_size, shape.whole)))))

pub has_norm_below-requires : goal.has_norm_below-requires
has_norm_below-requires g c =
    let p = c.args.p.now in
    let some = limits p (search rules) in
    let columns : 1 ≤ g.row.L = rw c.requires.sizes.columns some.some_columns in
    let M : to_z w32 (of_z w32 p.gamma1) ≡ p.gamma1 = search rules in
    let z = response-within (nat_abs (to_z w32 (of_z w32 p.gamma1))) g.row.L c.write_signature_parts.new.z (rw M (mask-size p.gamma1 some.mask).1) c.in_ok-c_tilde.ensures.response in
    (search rules, (columns, λ r n h l. (let x = z r n h l in omega (arith, x))))

pub sample_in_ball-requires : goal.sample_in_ball-requires
sample_in_ball-requires g c =
    let p = c.args.p.now in
    let T : to_z w32 (of_z w32 p.tau) ≡ p.tau = search rules in
    let some = limits p (search rules) in
    record { tau = rw T (some.some_signs, some.few_signs) }

-- the decoded parts, and what the test of the norm says
decoded : (g : Over) (c : After-has_norm_below g)
    → IsSignature (nat_abs c.args.p.now.gamma1) (nat_abs c.args.p.now.omega) c.args.p.now.k c.args.p.now.l (c_tilde_length (set_of c.args.p.now)) c.args.sig.now c.in_ok-c_tilde.c_tilde.now c.write_signature_parts.new.z c.write_signature_parts.new.h
decoded g c =
    let p = c.args.p.now in
    let M : to_z w32 (of_z w32 p.gamma1) ≡ p.gamma1 = search rules in
    let O : to_z w32 (of_z w32 p.omega) ≡ p.omega = search rules in
    rw (M, O, c.requires.sizes.rows, c.requires.sizes.columns, c.c_tilde_len.ensures.size) at c.in_ok-c_tilde.ensures

pub returns-then-not-has_norm_below-clause-parts : goal.returns-then-not-has_norm_below-clause-parts
returns-then-not-has_norm_below-clause-parts g c =
    let p = set_of c.args.p.now in
    let k = (goal.at.returns-then-not-has_norm_below-clause-parts g c).After-has_norm_below in
    let sizes = mask-size c.args.p.now.gamma1 (limits c.args.p.now (search rules)).mask in
    let test = rw c.z_bound.ensures at c.has_norm_below.ensures in
    λ c_tilde z h ball found. absurd (true≢false (sym (test ∙ lt-ltb _ _ (same_norm p g.H.Xof.front c.args.sig.now c.in_ok-c_tilde.c_tilde.now c_tilde c.write_signature_parts.new.z z c.write_signature_parts.new.h h ball
    sizes.0 (omega (arith, sizes.1)) (decoded g k) found)) ∙ c.if-not-has_norm_below.true))

pub returns-in-Err-clause-parts : goal.returns-in-Err-clause-parts
returns-in-Err-clause-parts g c =
    let p = c.args.p.now in
    let k = (goal.at.returns-in-Err-clause-parts g c).After-has_norm_below in
    let front = g.H.Xof.front in
    let T : to_z w32 (of_z w32 p.tau) ≡ p.tau = search rules in
    let sizes = mask-size p.gamma1 (limits p (search rules)).mask in
    let fault = none_of_err (challenge (nat_abs (to_z w32 (of_z w32 p.tau))) (front c.in_ok-c_tilde.c_tilde.now)) c.in-Err.field-0 c.in-Err.ensures in
    let here : challenge (nat_abs p.tau) (front c.in_ok-c_tilde.c_tilde.now) ≡ None = rw T at fault.0 in
    λ c_tilde z h ball found.
    let same = same_signature (nat_abs p.gamma1) (nat_abs p.omega) p.k p.l (c_tilde_length (set_of p)) c.args.sig.now c.in_ok-c_tilde.c_tilde.now c_tilde c.write_signature_parts.new.z z c.write_signature_parts.new.h h
    sizes.0 (omega (arith, sizes.1)) (decoded g k) found.parts in
    absurd (none-some ball (sym here ∙ ap (λ (x : List ℕ). challenge (nat_abs p.tau) (front x)) same.0 ∙ found.sampled))

pub returns-in-Ok-clause-parts : goal.returns-in-Ok-clause-parts
returns-in-Ok-clause-parts g c =
    let p = c.args.p.now in
    let k = (goal.at.returns-in-Ok-clause-parts g c).After-has_norm_below in
    let front = g.H.Xof.front in
    let T : to_z w32 (of_z w32 p.tau) ≡ p.tau = search rules in
    let ball = some_of_ok (challenge (nat_abs (to_z w32 (of_z w32 p.tau))) (front c.in_ok-c_tilde.c_tilde.now)) c.in-Ok.c c.in-Ok.ensures in
    record { parts = decoded g k; norm = ltb-true _ _ (sym (rw c.z_bound.ensures at c.has_norm_below.ensures) ∙ c.if-not-has_norm_below.false); sampled = rw T at ball }

pub returns-in-Ok-clause-within : goal.returns-in-Ok-clause-within
returns-in-Ok-clause-within g c =
    let p = c.args.p.now in
    let k = (goal.at.returns-in-Ok-clause-within g c).After-has_norm_below in
    let some = limits p (search rules) in
    let z = response-within (nat_abs p.gamma1) g.row.L c.write_signature_parts.new.z (mask-size p.gamma1 some.mask).1 (rw c.requires.sizes.columns (decoded g k).response) in (
      (rw c.requires.sizes.rows some.few_rows, rw c.requires.sizes.columns some.few_columns),
      λ r n i m. (let x = z r n i m in omega (arith, x)),
      challenge-reduced _ _ c.in-Ok.c (some_of_ok _ c.in-Ok.c c.in-Ok.ensures),
    )
