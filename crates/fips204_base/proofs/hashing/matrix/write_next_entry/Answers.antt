use Rattle.std.proofs.Common.{◌≡◌, ◌+◌, ◌*◌, ◌<◌, Err, refl, arith, rules}
use Rattle.fips204_base.proofs.Names.{SamplingLimit, ahead-last, matched, matrix-none, some_columns}
use Rattle.fips204_base.proofs.hashing.matrix.write_next_entry.Goals as goal

pub returns-then-n : goal.returns-then-n
returns-then-n g c =
    let n = c.args.n in
    let place = c.requires.place in
    matched c.write_one.result c.write_one.ensures
    (λ x there. (there, ahead-last g.G.Xof.front c.args.rho.now g.row.L (g.row.K * g.row.L) n c.args.ahead.now c.if-n.true))
    (λ fault none. (matrix-none g.G.Xof.front c.args.rho.now g.row.K g.row.L n (some_columns g.row.K g.row.L n place) place none.0, none.1))

pub returns-in_err-write_four : goal.returns-in_err-write_four
returns-in_err-write_four g c =
    let refused : c.from_residual.result ≡ Err SamplingLimit = search rules in
    let none = c.in_err-write_four.ensures.0 in
    let place : c.args.n + none.0 < g.row.K * g.row.L = omega (arith, none.1, c.if-n.false, c.if-n-eq0.true) in
    rw refused (matrix-none g.G.Xof.front c.args.rho.now g.row.K g.row.L (c.args.n + none.0) (some_columns g.row.K g.row.L c.args.n c.requires.place) place none.2, refl)
