use Rattle.std.proofs.Common.{rules, arith, ◌≡◌, IsTrue, ◌↔◌}
use Rattle.fips204.proofs.Names.{set_of}
use Rattle.fips204.proofs.ParameterSets.{limits}
use Rattle.fips204.proofs.Verification.{hinted-written}
use Rattle.fips204.proofs.ml_dsa.verification.is_committed.Goals as goal

pub returns : goal.returns
returns g c = λ d factor.
    let p = set_of c.args.p.now in
    let verdict : IsTrue c.eq.result ↔ (c.args.c_tilde.now ≡ c.write_commitment_hash.new.c_tilde) = search rules in
    let same = hinted-written p c.args.h.now c.write_plain.new.out c.args.az.now c.subtract_multiple.new.self c.args.t1_hat.now d c.args.c_hat.now g.row.K c.requires.rows factor
    (λ r n h l. c.subtract_multiple.ensures r n (omega (arith, h, (limits c.args.p.now (search rules)).few_rows, c.requires.rows)) l) c.write_plain.ensures.values in
    rw (c.write_commitment_hash.ensures, c.write_hinted.ensures.values, same) at verdict
