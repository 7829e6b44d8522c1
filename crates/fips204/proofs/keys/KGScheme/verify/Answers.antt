use Rattle.std.proofs.Common.{arith}
use Rattle.fips204.proofs.Names.{plain}
use Rattle.fips204.proofs.SeedKeys.{seed_accepts}
use Rattle.fips204.proofs.keys.KGScheme.verify.Goals as goal

pub returns-clause-signed_is_accepted : goal.returns-clause-signed_is_accepted
returns-clause-signed_is_accepted g c =
    λ xi rnd sk keys made. c.verify.ensures.1
    (seed_accepts g.S.Set.set g.H.Xof.front g.G.Xof.front xi rnd c.args.signature.now (plain c.args.message.now c.args.ctx.now) c.args.pk.now sk g.S.Set.known
    (λ input. omega (arith, g.met.H.Xof.front_size input, g.met.H.Xof.front_least)) keys made)
