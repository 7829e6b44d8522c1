use Rattle.std.proofs.Common.{◌≡◌, ◌∙◌, ◌++◌, ap, nat_abs, of_z, rules, sym, take, to_z}
use Rattle.fips204_base.proofs.Names.{w32, kept_half_bytes, kept_half_bytes-joined, kept_half_bytes-zero}
use Rattle.fips204_base.proofs.hashing.small.HalfBytesDraws.write_first.Goals as goal

pub returns-clause-kept : goal.returns-clause-kept
returns-clause-kept c = λ front read.
    let read_eta : to_z w32 (of_z w32 c.args.self.now.eta) ≡ c.args.self.now.eta = search rules in
    let eta = nat_abs c.args.self.now.eta in
    (rw read_eta at c.write_kept_half_bytes.ensures.kept) ∙ ap (λ n. take 256 (kept_half_bytes eta c.args.draws.now n)) c.requires.whole ∙ ap (λ p. take 256 (kept_half_bytes eta p 192)) read
    ∙ ap (λ l. take 256 (l ++ kept_half_bytes eta (take 192 front) 192)) (sym (kept_half_bytes-zero eta front)) ∙ ap (take 256) (sym (kept_half_bytes-joined eta front 0 192))
