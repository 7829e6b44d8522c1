use Rattle.std.proofs.Common.{◌≡◌, ◌+◌, ◌*◌, ◌∙◌, ap, append_assoc, arith, length, nat_abs, rules, w32}
use Rattle.fips204_base.proofs.Names.{to_z-of_z, response_bounds, response_least, less_one}
use Rattle.fips204_base.proofs.encodings.signature.write_encoded_signature.Goals as goal

pub write_packed_vector-requires : goal.write_packed_vector-requires
write_packed_vector-requires g c =
    let G = to_z-of_z w32 c.args.gamma1 c.ranges.gamma1 in
    let L = less_one c.args.gamma1 c.requires.set in
    (search rules, (rw (L, G) (response_bounds c.args.gamma1 c.requires.set), (rw (L, G) c.requires.range, c.split_at_mut-response.ensures.front_len ∙ ap (λ s. s * g.row.L) c.polynomial_size.ensures.size)))

pub hint_bit_pack-requires : goal.hint_bit_pack-requires
hint_bit_pack-requires g c =
    let O = to_z-of_z w32 c.args.omega c.ranges.omega in
    let size = rw (less_one c.args.gamma1 c.requires.set, to_z-of_z w32 c.args.gamma1 c.ranges.gamma1) at c.polynomial_size.ensures.size in
    let left : length c.split_at_mut-response.result.1.now ≡ nat_abs c.args.omega + g.row.K = omega (arith, ap (λ s. s * g.row.L) size, c.requires.size, c.split_at_mut-response.ensures.back_len, c.split_at_mut-challenge.ensures.back_len) in
    (search rules, (rw O c.requires.some, (rw O c.requires.hint_size, (rw O left, (c.requires.bits, rw O c.requires.few)))))

pub returns : goal.returns
returns g c =
    let G = to_z-of_z w32 c.args.gamma1 c.ranges.gamma1 in
    let L = less_one c.args.gamma1 c.requires.set in
    let O = to_z-of_z w32 c.args.omega c.ranges.omega in
    rw (c.copy_from_slice.ensures.after, c.write_packed_vector.ensures, c.hint_bit_pack.ensures, L, G, O, response_least c.args.gamma1 c.requires.set) (simp append_assoc)
