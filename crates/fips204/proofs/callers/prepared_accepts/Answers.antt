use Rattle.std.proofs.Common.{◌≡◌, Ok, refl, rules}
use Rattle.fips204.proofs.Names.{set_44, prepared_private, prepared_public, public_of_prepared, derived}
use Rattle.fips204.proofs.callers.prepared_accepts.Goals as goal

pub returns : goal.returns
returns g c =
    let law = c.prepared_keys.ensures set_44 g.H.Xof.front g.G.Xof.front in
    let made : prepared_private set_44 g.G.Xof.front c.args.private.now ≡ Ok c.in_ok-prepare.field-0 = search rules in
    let derives : derived set_44 g.G.Xof.front c.args.private.now ≡ Ok c.in_ok-get_public_key.field-0 = search rules in
    let public : prepared_public set_44 g.G.Xof.front c.in_ok-get_public_key.field-0 ≡ Ok c.in_ok-public.public = search rules in
    let whole = (law.whole c.args.private.now c.in_ok-prepare.field-0 made).1 c.requires in
    let accepted = c.try_sign_with_seed.ensures.accepted (public_of_prepared set_44 c.in_ok-prepare.field-0) c.in_ok-signature.signature whole refl in
    search rules
