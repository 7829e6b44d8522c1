use Rattle.std.proofs.Common.{◌≡◌, Err, rules}
use Rattle.fips204_shake.proofs.Elements.{gives_only}
use Rattle.fips204_shake.proofs.PemTexts.{not_opened, not_closed, symbols_left}
use Rattle.fips204_shake.proofs.pem.spelled.Goals as goal

pub returns-in_err-rest-clause-exact : goal.returns-in_err-rest-clause-exact
returns-in_err-rest-clause-exact c =
    let failed : c.from_residual.result ≡ Err c.in_err-rest.field-0.0 = search rules in
    rw failed (not_opened _ _ _ _ _ c.from_beginning.ensures c.in_err-rest.ensures)

pub returns-in_err-body-clause-exact : goal.returns-in_err-body-clause-exact
returns-in_err-body-clause-exact c =
    let failed : c.from_residual-in_err-body.result ≡ Err c.in_err-body.field-0.0 = search rules in
    rw failed (not_closed _ _ _ _ _ _ _ c.from_beginning.ensures c.in_ok-rest.ensures c.end_line.ensures c.in_err-body.ensures)

pub returns-clause-exact : goal.returns-clause-exact
returns-clause-exact c =
    gives_only _ c.decode.result _ _ c.decode.ensures.exact
    (symbols_left _ _ _ _ _ _ _ c.from_beginning.ensures c.in_ok-rest.ensures c.end_line.ensures c.in_ok-body.ensures)
