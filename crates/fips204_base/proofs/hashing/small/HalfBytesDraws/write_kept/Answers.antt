use Rattle.std.proofs.Common.{◌≡◌, ◌∙◌, ◌+◌, ◌++◌, ap, arith, nat_abs, of_z, rules, sym, take, to_z}
use Rattle.fips204_base.proofs.Names.{w32, keeps_next, kept_half_bytes, kept_half_bytes-drawn}
use Rattle.fips204_base.proofs.hashing.small.HalfBytesDraws.write_kept.Goals as goal

pub returns-clause-kept : goal.returns-clause-kept
returns-clause-kept c = λ front tried read before.
    let read_eta : to_z w32 (of_z w32 c.args.self.now.eta) ≡ c.args.self.now.eta = search rules in
    let eta = nat_abs c.args.self.now.eta in
    let n = c.args._n in
    let made = c.write_kept_half_bytes in
    let written = (rw read_eta at made.ensures.kept) ∙ ap (λ m. take 256 (take c.args.count c.args.values.now ++ kept_half_bytes eta c.args.piece.now m)) (omega (arith, c.requires.whole)) in
    let joined = kept_half_bytes-drawn eta front tried n ∙ ap (λ p. kept_half_bytes eta front tried ++ kept_half_bytes eta p n) (sym read) in
    keeps_next c.args.values.now made.new.values (kept_half_bytes eta front tried) (kept_half_bytes eta c.args.piece.now n) (kept_half_bytes eta front (tried + n)) c.args.count made.result
    c.told-values (search rules) c.requires.room made.ensures.count joined written before
