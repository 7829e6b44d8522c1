use Rattle.std.proofs.Common.{arith, rules}
use Rattle.fips204.proofs.SeedKeys.{generated_pairs, generated_decode}
use Rattle.fips204.proofs.keys.KGKeyGen.keygen_from_seed.Goals as goal

pub returns-clause-pair : goal.returns-clause-pair
returns-clause-pair g c =
    generated_pairs g.S.Set.set g.H.Xof.front g.G.Xof.front c.args.xi.now c.key_gen_internal.result g.S.Set.known
    (λ input. omega (arith, g.met.H.Xof.front_size input, g.met.H.Xof.front_least)) (search rules)

pub returns-clause-stored : goal.returns-clause-stored
returns-clause-stored g c =
    let sizes = g.met.S.KeySizes.key_sizes in
    rw (sizes.rows, sizes.columns)
    (generated_decode g.S.Set.set g.H.Xof.front g.G.Xof.front c.args.xi.now c.key_gen_internal.result g.S.Set.known
    (λ input. omega (arith, g.met.H.Xof.front_size input, g.met.H.Xof.front_least)) (search rules))
