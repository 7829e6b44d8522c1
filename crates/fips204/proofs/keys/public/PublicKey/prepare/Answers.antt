use Rattle.std.proofs.Common.{refl, ◌≡◌, ◌∙◌, ap, sym, subst, Ok, Some}
use Rattle.fips204.proofs.Names.{PublicParts, PreparedPublic, prepared_public, sampled_matrix}
use Rattle.fips204.proofs.keys.public.PublicKey.prepare.Goals as goal

pub returns : goal.returns
returns g c =
    let p = g.S.Set.set in
    let sizes = g.met.S.SignatureSizes.sizes in
    let sampled = c.in_ok-write_expanded_a.ensures.values in
    let there = sampled.1 ∙ ap Some (sym sampled.2) in
    let at_set : sampled_matrix g.G.Xof.front c.self.inside.rho p.k p.l ≡ Some c.write_expanded_a.new.matrix = rw (sizes.rows, sizes.columns) at there in
    let same : c.self.inside.rho ≡ c.args.self.now.rho = ap (λ (k : PublicParts). k.rho) c.self.view_is in
    let coefficient_of = rw same at at_set in
    subst (λ (pk : PublicParts). Ok (let made : PreparedPublic = record { parts = pk; matrix = c.write_expanded_a.new.matrix } in made) ≡ prepared_public p g.G.Xof.front c.args.self.now) (sym c.self.view_is) (rw coefficient_of refl)
