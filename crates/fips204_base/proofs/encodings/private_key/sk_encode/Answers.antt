use Rattle.std.proofs.Common.{◌≡◌, ◌*◌, ◌∙◌, ap, append_assoc, arith, length, rules, sym, w32}
use Rattle.fips204_base.proofs.Names.{ints, to_z-of_z, eta_bounds, width_4095_4096}
use Rattle.fips204_base.proofs.encodings.private_key.sk_encode.Goals as goal

pub write_packed_vector-requires : goal.write_packed_vector-requires
write_packed_vector-requires g c =
    let E = to_z-of_z w32 c.args.eta c.ranges.eta in
    (search rules, (rw E (eta_bounds c.args.eta c.requires.set), (rw E c.requires.s1_range, c.split_at_mut-first.ensures.front_len ∙ ap (λ s. s * g.row.L) c.polynomial_size-size.ensures.size)))

pub write_packed_vector-requires-2 : goal.write_packed_vector-requires-2
write_packed_vector-requires-2 g c =
    let E = to_z-of_z w32 c.args.eta c.ranges.eta in
    (search rules, (rw E (eta_bounds c.args.eta c.requires.set), (rw E c.requires.s2_range, c.split_at_mut-second.ensures.front_len ∙ ap (λ s. s * g.row.K) c.polynomial_size-size.ensures.size)))

pub write_packed_vector-requires-3 : goal.write_packed_vector-requires-3
write_packed_vector-requires-3 g c =
    let size = rw (to_z-of_z w32 c.args.eta c.ranges.eta) at c.polynomial_size-size.ensures.size in
    let left : length c.split_at_mut-second.result.1.now ≡ 32 * 13 * g.row.K = omega (arith, ap (λ s. s * g.row.L) size, ap (λ s. s * g.row.K) size, c.requires.size, c.split_at_mut-mask_seed.ensures.back_len) in
    (search rules, ((omega (arith, ints), omega (arith, ints), omega (arith, ints), omega (arith, ints)), (c.requires.t0_range, left ∙ ap (λ n. 32 * n * g.row.K) (sym width_4095_4096))))

pub returns : goal.returns
returns g c =
    let E = to_z-of_z w32 c.args.eta c.ranges.eta in
    rw (c.copy_from_slice.ensures.after, c.copy_from_slice-2.ensures.after, c.copy_from_slice-3.ensures.after, c.write_packed_vector.ensures, c.write_packed_vector-2.ensures, c.write_packed_vector-3.ensures, E) (simp append_assoc)
