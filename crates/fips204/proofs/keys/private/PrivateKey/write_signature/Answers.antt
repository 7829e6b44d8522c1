use Rattle.std.proofs.Common.{rules, ◌≡◌, Ok, Err, arith, refl, subst}
use Rattle.fips204.proofs.Names.{HasSizes, PrivateParts, ArePrivateParts, input_hash, input_of, set_of, sign}
use Rattle.fips204.proofs.ParameterSets.{parts_at_set}
use Rattle.fips204.proofs.SeedKeys.{input_accepted}
use Rattle.fips204.proofs.Writing.{writes_input, writes_refused, if_written}
use Rattle.fips204.proofs.keys.private.PrivateKey.write_signature.Goals as goal

pub write_signature-requires : goal.write_signature-requires
write_signature-requires g c =
    let sizes : HasSizes (set_of c.params.result) g.row.K g.row.L g.row.SIG_LEN = rw c.params.ensures g.met.S.SignatureSizes.sizes in
    search rules

pub returns-in_err-mu-clause-answer : goal.returns-in_err-mu-clause-answer
returns-in_err-mu-clause-answer g c =
    let fault = c.in_err-mu.field-0.0 in
    let hash : Err fault ≡ input_hash g.H.Xof.front c.args.self.now.tr (input_of c.args.input.now) = search rules in
    let refused : c.from_residual.result ≡ Err fault = search rules in
    writes_refused g.H.Xof.front c.args.self.now.tr (input_of c.args.input.now) _ _ _ fault _ hash refl refused

pub returns-clause-answer : goal.returns-clause-answer
returns-clause-answer g c =
    let hash : Ok c.in_ok-mu.mu ≡ input_hash g.H.Xof.front c.args.self.now.tr (input_of c.args.input.now) = search rules in
    writes_input g.H.Xof.front c.args.self.now.tr c.in_ok-mu.mu (input_of c.args.input.now) (λ mu. sign g.S.Set.set g.H.Xof.front g.G.Xof.front c.args.self.now mu c.args.seed.now) _ _ _ hash (rw c.params.ensures at c.write_signature.ensures.answer)

pub returns-clause-accepted : goal.returns-clause-accepted
returns-clause-accepted g c =
    let p = g.S.Set.set in
    let sizes = g.met.S.SignatureSizes.sizes in
    let parts = subst (λ (k : PrivateParts). ArePrivateParts p.eta g.row.K g.row.L k) c.self.view_is (parts_at_set p _ _ _ g.S.Set.known sizes.rows c.self.invariant) in
    if_written _ _ _ _ _ (returns-clause-answer g c) (input_accepted p g.H.Xof.front g.G.Xof.front g.row.K g.row.L c.args.self.now c.args.seed.now (input_of c.args.input.now) _ g.S.Set.known
    (λ input. omega (arith, g.met.H.Xof.front_size input, g.met.H.Xof.front_least)) sizes.rows sizes.columns parts)
