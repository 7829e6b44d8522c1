use Rattle.std.proofs.Common.{rules, ◌≡◌, ◌∙◌, arith, Err}
use Rattle.fips204.proofs.Names.{represented, set_of}
use Rattle.fips204.proofs.ParameterSets.{known-set}
use Rattle.fips204.proofs.SeedKeys.{input_accepted}
use Rattle.fips204.proofs.Writing.{written, not_written}
use Rattle.fips204.proofs.ml_dsa.signing.sign_internal.Goals as goal

pub returns-in_err-write_signature-clause-answer : goal.returns-in_err-write_signature-clause-answer
returns-in_err-write_signature-clause-answer g c =
    let refused : c.from_residual.result ≡ Err c.in_err-write_signature.field-0.0 = search rules in
    refused ∙ not_written _ _ _ _ c.in_err-write_signature.ensures.answer

pub returns-clause-answer : goal.returns-clause-answer
returns-clause-answer g c = written _ _ _ c.in_ok-write_signature.ensures.answer

pub returns-clause-accepted : goal.returns-clause-accepted
returns-clause-accepted g c =
    input_accepted (set_of c.args.p.now) g.H.Xof.front g.G.Xof.front g.row.K g.row.L c.args.sk.now c.args.rnd.now (represented c.args.mu.now) _ (known-set c.args.p.now (search rules))
    (λ input. omega (arith, g.met.H.Xof.front_size input, g.met.H.Xof.front_least)) c.requires.sizes.rows c.requires.sizes.columns c.in_ok-write_signature.ensures.parts (returns-clause-answer g c)
