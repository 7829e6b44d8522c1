use Rattle.fips204_base.proofs.Names.{ints, to_z-of_z, width, KeyRange, width_4095_4096, eta_width, private_key_cut, private_key_joined, same_bounds}
use Rattle.std.proofs.Common.{◌≡◌, ◌*◌, ◌++◌, ◌∙◌, Some, None, Err, ap, refl, sym, arith, rules, nat_abs, length, take, drop, w32, length-drop}
use Rattle.fips204_base.proofs.encodings.private_key.write_private_key_parts.Goals as goal

pub write_unpacked_short_vector-requires-2 : goal.write_unpacked_short_vector-requires-2
write_unpacked_short_vector-requires-2 g c = search rules

pub write_unpacked_vector-requires : goal.write_unpacked_vector-requires
write_unpacked_vector-requires g c =
    let E = to_z-of_z w32 c.args.eta c.ranges.eta in
    let size : c.polynomial_size-size.result ≡ 32 * width c.args.eta c.args.eta = let e = c.polynomial_size-size.ensures.size in rw E at e in
    let first = ap (λ s. s * g.row.L) size in
    let second = ap (λ s. s * g.row.K) size in
    let one = ap length c.split_at.ensures.back ∙ length-drop 128 c.args.sk.now in
    let two = ap length c.split_at-2.ensures.back ∙ length-drop (c.polynomial_size-size.result * g.row.L) c.split_at.result.1.now in
    let three = ap length c.split_at-3.ensures.back ∙ length-drop (c.polynomial_size-size.result * g.row.K) c.split_at-2.result.1.now in
    let room : length c.split_at-3.result.1.now ≡ 416 * g.row.K = omega (arith, one, two, three, first, second, c.requires.size) in
    grind (arith, ints, to_z-of_z, width_4095_4096, room)

pub returns-in_err-ok_or : goal.returns-in_err-ok_or
returns-in_err-ok_or g c =
    let E = to_z-of_z w32 c.args.eta c.ranges.eta in
    let size : c.polynomial_size-size.result ≡ 32 * width c.args.eta c.args.eta = let e = c.polynomial_size-size.ensures.size in rw E at e in
    let natural = size ∙ ap (λ w. 32 * w) (eta_width c.args.eta c.requires.set) in
    let none : c.write_unpacked_short_vector.result ≡ None = search rules in
    let refused : c.from_residual.result ≡ Err KeyRange = search rules in
    let given = rw (none, E) at c.write_unpacked_short_vector.ensures in
    let first = c.split_at-2.ensures.front ∙ ap (take (c.polynomial_size-size.result * g.row.L)) c.split_at.ensures.back in
    rw refused (refl, λ key s. given key.s1 (s.parts.s1, sym (private_key_cut _ _ _ _ _ s).s1 ∙ sym (rw natural at first)))

pub returns-in_err-ok_or-2 : goal.returns-in_err-ok_or-2
returns-in_err-ok_or-2 g c =
    let E = to_z-of_z w32 c.args.eta c.ranges.eta in
    let size : c.polynomial_size-size.result ≡ 32 * width c.args.eta c.args.eta = let e = c.polynomial_size-size.ensures.size in rw E at e in
    let natural = size ∙ ap (λ w. 32 * w) (eta_width c.args.eta c.requires.set) in
    let none : c.write_unpacked_short_vector-2.result ≡ None = search rules in
    let refused : c.from_residual-in_err-ok_or-2.result ≡ Err KeyRange = search rules in
    let given = rw (none, E) at c.write_unpacked_short_vector-2.ensures in
    let second = c.split_at-3.ensures.front ∙ ap (take (c.polynomial_size-size.result * g.row.K)) (c.split_at-2.ensures.back ∙ ap (drop (c.polynomial_size-size.result * g.row.L)) c.split_at.ensures.back) in
    rw refused (refl, λ key s. given key.s2 (s.parts.s2, sym (private_key_cut _ _ _ _ _ s).s2 ∙ sym (rw natural at second)))

pub returns : goal.returns
returns g c =
    let E = to_z-of_z w32 c.args.eta c.ranges.eta in
    let seeds = c.split_at.result.0.now in
    let first = c.split_at-2.result.0.now in
    let second = c.split_at-3.result.0.now in
    let low = c.split_at-3.result.1.now in
    let rho : c.part.result.now ≡ take 32 (drop 0 seeds) = c.part.ensures in
    let key : c.part-2.result.now ≡ take 32 (drop 32 seeds) = c.part-2.ensures in
    let tr : c.part-3.result.now ≡ take 64 (drop 64 seeds) = c.part-3.ensures in
    let tail = c.split_at-2.ensures.by_index.0 ∙ ap (λ l. first ++ l) c.split_at-3.ensures.by_index.0 in
    let n = ap nat_abs E in
    let first_there : c.write_unpacked_short_vector.result ≡ Some tt = search rules in
    let second_there : c.write_unpacked_short_vector-2.result ≡ Some tt = search rules in
    let s1 = rw first_there at c.write_unpacked_short_vector.ensures in
    let s2 = rw second_there at c.write_unpacked_short_vector-2.ensures in
    let one = same_bounds g.row.L _ _ (nat_abs c.args.eta) (nat_abs c.args.eta) c.write_unpacked_short_vector.new.v first n n s1.0 s1.1 in
    let two = same_bounds g.row.K _ _ (nat_abs c.args.eta) (nat_abs c.args.eta) c.write_unpacked_short_vector-2.new.v second n n s2.0 s2.1 in
    rw (rho, key, tr) (private_key_joined (nat_abs c.args.eta) g.row.K g.row.L c.args.sk.now seeds first second low
    c.write_unpacked_short_vector.new.v c.write_unpacked_short_vector-2.new.v c.write_unpacked_vector.new.v (c.split_at.ensures.by_index.0 ∙ ap (λ l. seeds ++ l) tail) c.split_at.ensures.front_len
    one.0 two.0 c.write_unpacked_vector.ensures.vector one.1 two.1 c.write_unpacked_vector.ensures.same_bytes)
