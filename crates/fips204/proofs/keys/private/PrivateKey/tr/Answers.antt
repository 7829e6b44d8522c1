use Rattle.std.proofs.Common.{subst}
use Rattle.fips204.proofs.Names.{PrivateParts, ArePrivateParts}
use Rattle.fips204.proofs.ParameterSets.{parts_at_set}
use Rattle.fips204.proofs.keys.private.PrivateKey.tr.Goals as goal

pub returns-clause-parts : goal.returns-clause-parts
returns-clause-parts g c =
    let sizes = g.met.S.SignatureSizes.sizes in
    subst (λ (k : PrivateParts). ArePrivateParts g.S.Set.set.eta g.row.K g.row.L k) c.self.view_is
    (parts_at_set g.S.Set.set _ _ _ g.S.Set.known sizes.rows c.self.invariant)
