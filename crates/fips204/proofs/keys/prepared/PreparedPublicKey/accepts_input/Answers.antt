use Rattle.std.proofs.Common.{rules, List, ℕ}
use Rattle.fips204.proofs.Names.{HasSizes, Accepts, input_of, set_of}
use Rattle.fips204.proofs.RefusedCalls.{verified_input}
use Rattle.fips204.proofs.keys.prepared.PreparedPublicKey.accepts_input.Goals as goal

pub verify_prepared-requires : goal.verify_prepared-requires
verify_prepared-requires g c =
    let sizes : HasSizes (set_of c.params.result) g.row.K g.row.L g.row.SIG_LEN = rw c.params.ensures g.met.S.SignatureSizes.sizes in
    search rules

pub returns-in-Ok : goal.returns-in-Ok
returns-in-Ok g c =
    let key = c.args.self.now in
    verified_input g.H.Xof.front key.parts.tr c.in-Ok.mu (input_of c.args.input.now) (λ (mu : List ℕ). Accepts g.S.Set.set g.H.Xof.front key.matrix key.parts.t1 mu c.args.signature.now)
    c.verify_prepared.result (search rules) (rw c.params.ensures at c.verify_prepared.ensures)
