use Rattle.std.proofs.Common.{◌≡◌, ◌≤◌, ℕ, List, length, Ok, refl, inl, arith, rules}
use Rattle.fips204.proofs.Names.{IsPublicKeyOf, IsPrivateKeyOf, public_key_bytes, private_key_bytes, plain, set_44, generated, sign_input, VerifiesInput}
use Rattle.fips204.proofs.callers.stored_pair_accepts.Goals as goal

pub returns : goal.returns
returns g c =
    let H = g.H.Xof.front in
    let G = g.G.Xof.front in
    let pk = c.in_ok-public.public in
    let sk = c.in_ok-public.private in
    let long = λ (x : List ℕ). let all : 4096 ≤ length (H x) = omega (arith, g.met.H.Xof.front_size x, g.met.H.Xof.front_least) in all in
    let made : generated set_44 H G c.args.xi.now ≡ Ok (pk, sk) = search rules in
    let both = (c.signed_is_accepted.ensures set_44 H G pk sk (inl refl) long).1 c.args.xi.now made in
    let public_read : IsPublicKeyOf H 4 (public_key_bytes pk.rho pk.t1) c.in_ok-public-2.public = search rules in
    let private_read : IsPrivateKeyOf 2 4 4 (private_key_bytes 2 sk) c.in_ok-private.private = search rules in
    let public = (both.0.public_decoded c.in_ok-public-2.public).0 public_read in
    let private = (both.0.private_decoded c.in_ok-private.private).0 private_read in
    let input = plain c.args.message.now c.args.ctx.now in
    let signed : sign_input set_44 H G c.in_ok-private.private c.args.rnd.now input ≡ Ok c.in_ok-signature.signature = search rules in
    let accepted : VerifiesInput set_44 H G pk c.in_ok-signature.signature input =
    both.1 c.args.rnd.now c.in_ok-signature.signature input (rw private at signed) in
    c.verify.ensures.1 (rw public accepted)
