use Rattle.std.proofs.Common.{rules, [], ◌≡◌, ◌≤◌, ◌∙◌, ◌++◌, length, sym, take, nat_abs, to_z, of_z, w32, arith}
use Rattle.fips204.proofs.Names.{length-take-le, w1_bytes, set_of}
use Rattle.fips204.proofs.ParameterSets.{limits}
use Rattle.fips204.proofs.Attempts.{commitment-is}
use Rattle.fips204.proofs.ml_dsa.commitment_hash.write_commitment_hash.Goals as goal

pub slice_bounds-room-end : goal.slice_bounds-room-end
slice_bounds-room-end g c = omega (arith, c.w1_len.ensures.few)

pub slice_bounds-bytes-end : goal.slice_bounds-bytes-end
slice_bounds-bytes-end g c = sym (length-take-le _ _ (omega (arith, c.w1_len.ensures.few)))

pub w1_encode-requires : goal.w1_encode-requires
w1_encode-requires g c =
    let p = c.args.p.now in
    let G : to_z w32 (of_z w32 p.gamma2) ≡ p.gamma2 = search rules in
    (search rules, (rw G (limits p (search rules)).rounding, (rw G c.requires.range, length-take-le _ _ (omega (arith, c.w1_len.ensures.few)) ∙ rw (G, c.requires.rows) c.w1_len.ensures.size)))

pub read-requires : goal.read-requires
read-requires g c =
    let short : length c.args.c_tilde.now ≤ 64 = rw c.requires.size (limits c.args.p.now (search rules)).short in
    rw c.open-reader.ensures (omega (arith, short, g.met.H.Xof.front_size (c.as_slice.result.now ++ (c.w1_encode.new.out ++ [])), g.met.H.Xof.front_least))

pub returns : goal.returns
returns g c =
    let p = c.args.p.now in
    let G : to_z w32 (of_z w32 p.gamma2) ≡ p.gamma2 = search rules in
    let bytes : c.w1_encode.new.out ≡ w1_bytes (nat_abs p.gamma2) c.args.w1.now = rw G at c.w1_encode.ensures in
    let read : c.read.new.out ≡ take (length c.args.c_tilde.now) (g.H.Xof.front (c.args.mu.now ++ c.w1_encode.new.out)) = search rules in
    commitment-is (set_of p) g.H.Xof.front c.args.mu.now c.args.w1.now (length c.args.c_tilde.now) c.w1_encode.new.out c.read.new.out c.requires.size bytes read
