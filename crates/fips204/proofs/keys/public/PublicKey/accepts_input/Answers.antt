use Rattle.std.proofs.Common.{rules, List, ℕ}
use Rattle.fips204.proofs.Names.{HasSizes, Verifies, input_of, set_of}
use Rattle.fips204.proofs.RefusedCalls.{verified_input}
use Rattle.fips204.proofs.keys.public.PublicKey.accepts_input.Goals as goal

pub verify_internal-requires : goal.verify_internal-requires
verify_internal-requires g c =
    let sizes : HasSizes (set_of c.params.result) g.row.K g.row.L g.row.SIG_LEN = rw c.params.ensures g.met.S.SignatureSizes.sizes in
    search rules

pub returns-in-Ok : goal.returns-in-Ok
returns-in-Ok g c =
    verified_input g.H.Xof.front c.args.self.now.tr c.in-Ok.mu (input_of c.args.input.now) (λ (mu : List ℕ). Verifies g.S.Set.set g.H.Xof.front g.G.Xof.front c.args.self.now mu c.args.signature.now)
    c.verify_internal.result (search rules) (rw c.params.ensures at c.verify_internal.ensures)
