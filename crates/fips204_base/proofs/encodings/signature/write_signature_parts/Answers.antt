use Rattle.std.proofs.Common.{◌≡◌, ◌+◌, ◌-◌, ◌*◌, ◌≤◌, ◌++◌, ◌∙◌, ap, sym, subst, arith, rules, nat_abs, length, take, drop, w32, to_z, of_z, None}
use Rattle.fips204_base.proofs.Names.{to_z-of_z, drop-drop, take-append-drop, length-take-le, Spells, whole_response, response_bounds, response_least, response_width, less_one, signature-of_parts, signature-hint, same_bounds}
use Rattle.fips204_base.proofs.encodings.signature.write_signature_parts.Goals as goal

pub write_unpacked_hint-requires : goal.write_unpacked_hint-requires
write_unpacked_hint-requires g c = search rules

pub write_unpacked_vector-requires : goal.write_unpacked_vector-requires
write_unpacked_vector-requires g c =
    let G = to_z-of_z w32 c.args.gamma1 c.ranges.gamma1 in
    let L = less_one c.args.gamma1 c.requires.set in
    let room = c.split_at-2.ensures.front_len ∙ ap (λ s. s * g.row.L) c.polynomial_size.ensures.size in
    (search rules, (rw (L, G) (response_bounds c.args.gamma1 c.requires.set), (rw (L, G) (whole_response c.args.gamma1 c.requires.set), room)))

pub returns-in_err-write_unpacked_hint : goal.returns-in_err-write_unpacked_hint
returns-in_err-write_unpacked_hint g c =
    let none : c.from_residual.result ≡ None = search rules in
    rw none (λ c_tilde z h s.
    let n = c.args.size in
    let sigma = c.args.sigma.now in
    let start = c.polynomial_size.result * g.row.L in
    let G = to_z-of_z w32 c.args.gamma1 c.ranges.gamma1 in
    let O = to_z-of_z w32 c.args.omega c.ranges.omega in
    let L = less_one c.args.gamma1 c.requires.set in
    let size = c.polynomial_size.ensures.size in
    let natural = (rw (L, G) at size) ∙ ap (λ w. 32 * w) (response_width c.args.gamma1 c.requires.set) in
    let part = signature-hint _ _ _ _ _ (n + start) sigma c_tilde z h s (ap (λ s. n + s * g.row.L) natural) in
    let rest : c.split_at-2.result.1.now ≡ drop (n + start) sigma =
    c.split_at-2.ensures.back ∙ ap (drop start) c.split_at.ensures.back ∙ drop-drop start n sigma in
    c.in_err-write_unpacked_hint.ensures h (subst (λ y. Spells (nat_abs (to_z w32 (of_z w32 c.args.omega))) g.row.K h y) (sym rest) (subst (λ o. Spells (nat_abs o) g.row.K h (drop (n + start) sigma)) (sym O) part)))

pub returns : goal.returns
returns g c =
    let n = c.args.size in
    let sigma = c.args.sigma.now in
    let response = c.split_at-2.result.0.now in
    let hint = c.split_at-2.result.1.now in
    let G = to_z-of_z w32 c.args.gamma1 c.ranges.gamma1 in
    let O = to_z-of_z w32 c.args.omega c.ranges.omega in
    let L = less_one c.args.gamma1 c.requires.set in
    let first : c.split_at.result.0.now ≡ take n sigma = search rules in
    let inside : n ≤ length sigma = omega (arith, c.requires.size) in
    let cut : sigma ≡ c.split_at.result.0.now ++ (response ++ hint) =
    sym (ap (λ l. l ++ (response ++ hint)) first ∙ ap (λ l. take n sigma ++ l) (sym c.split_at-2.ensures.by_index.0 ∙ c.split_at.ensures.back) ∙ take-append-drop n sigma) in
    let vector = same_bounds g.row.L _ _ (nat_abs c.args.gamma1 - 1) (nat_abs c.args.gamma1) c.write_unpacked_vector.new.v response (ap nat_abs L ∙ response_least c.args.gamma1 c.requires.set) (ap nat_abs G)
    c.write_unpacked_vector.ensures.vector c.write_unpacked_vector.ensures.same_bytes in
    signature-of_parts (nat_abs c.args.gamma1) (nat_abs c.args.omega) g.row.K g.row.L n sigma c.split_at.result.0.now response hint c.write_unpacked_vector.new.v c.write_unpacked_hint.new.h cut
    (ap length first ∙ length-take-le n sigma inside) vector.0 vector.1 (subst (λ o. Spells (nat_abs o) g.row.K c.write_unpacked_hint.new.h hint) O c.in_ok-write_unpacked_hint.ensures)

pub overflow_mul-polynomial_size : goal.overflow_mul-polynomial_size
overflow_mul-polynomial_size g c = grind arith

pub split_at-requires-2 : goal.split_at-requires-2
split_at-requires-2 g c = grind arith
