use Rattle.std.proofs.Common.{◌≡◌, ◌∙◌, length, ap}
use Rattle.std.specs.List.{filter}
use Rattle.fips204_shake.specs.Base64.{base64}
use Rattle.fips204_shake.specs.Base64Reading.{is_black, symbols_at}
use Rattle.fips204_shake.proofs.Elements.{gives_found, gives_only}
use Rattle.fips204_shake.proofs.Base64Texts.{symbols_found, symbols_again}
use Rattle.fips204_shake.proofs.pem.base64.decode.Goals as goal

pub returns-clause-found : goal.returns-clause-found
returns-clause-found c =
    gives_found _ c.decoded.result _ (λ y. filter is_black c.args.text.now ≡ base64 y) c.decoded.ensures.exact
    (λ y e. (symbols_found (length c.args.out.now) (filter is_black c.args.text.now) y e).0)

pub returns-clause-only : goal.returns-clause-only
returns-clause-only c = λ bytes small is fits.
    gives_only _ c.decoded.result _ _ c.decoded.ensures.exact (ap (symbols_at (length c.args.out.now)) is ∙ symbols_again (length c.args.out.now) bytes small fits)
