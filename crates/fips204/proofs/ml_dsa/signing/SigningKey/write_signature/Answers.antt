use Rattle.std.proofs.Common.{rules, ◌≡◌, Ok, Err, refl}
use Rattle.fips204.proofs.Names.{input_hash, input_of, set_of, sign_with}
use Rattle.fips204.proofs.Writing.{writes_input, writes_refused}
use Rattle.fips204.proofs.ml_dsa.signing.SigningKey.write_signature.Goals as goal

pub returns-in_err-mu : goal.returns-in_err-mu
returns-in_err-mu g c =
    let fault = c.in_err-mu.field-0.0 in
    let hash : Err fault ≡ input_hash g.H.Xof.front c.args.self.now.parts.tr (input_of c.args.input.now) = search rules in
    let refused : c.from_residual.result ≡ Err fault = search rules in
    writes_refused g.H.Xof.front c.args.self.now.parts.tr (input_of c.args.input.now) _ _ _ fault _ hash refl refused

pub returns : goal.returns
returns g c =
    let hash : Ok c.in_ok-mu.mu ≡ input_hash g.H.Xof.front c.args.self.now.parts.tr (input_of c.args.input.now) = search rules in
    writes_input g.H.Xof.front c.args.self.now.parts.tr c.in_ok-mu.mu (input_of c.args.input.now) (λ mu. sign_with (set_of c.args.p.now) g.H.Xof.front c.args.self.now.matrix c.args.self.now.parts mu c.args.rnd.now) _ _ _ hash c.sign_with.ensures
