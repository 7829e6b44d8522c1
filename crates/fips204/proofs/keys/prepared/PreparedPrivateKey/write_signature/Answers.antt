use Rattle.std.proofs.Common.{rules, arith, ap, subst, sym}
use Rattle.fips204.proofs.Names.{HasSizes, PrivateParts, ArePrivateParts, PreparedPrivate, input_of, set_of}
use Rattle.fips204.proofs.ParameterSets.{parts_at_set}
use Rattle.fips204.proofs.Prepared.{signed_accepted}
use Rattle.fips204.proofs.Writing.{if_written}
use Rattle.fips204.proofs.keys.prepared.PreparedPrivateKey.write_signature.Goals as goal

pub write_signature-requires : goal.write_signature-requires
write_signature-requires g c =
    let sizes : HasSizes (set_of c.params.result) g.row.K g.row.L g.row.SIG_LEN = rw c.params.ensures g.met.S.SignatureSizes.sizes in
    search rules

pub returns-clause-answer : goal.returns-clause-answer
returns-clause-answer g c = rw (sym c.self.view_is) (rw c.params.ensures at c.write_signature.ensures)

pub returns-clause-accepted : goal.returns-clause-accepted
returns-clause-accepted g c =
    let sizes = g.met.S.SignatureSizes.sizes in
    let parts = subst (λ (k : PrivateParts). ArePrivateParts g.S.Set.set.eta g.row.K g.row.L k) (ap (λ (k : PreparedPrivate). k.parts) c.self.view_is) (parts_at_set g.S.Set.set _ _ _ g.S.Set.known sizes.rows c.self.invariant.1) in
    if_written _ _ _ _ _ (returns-clause-answer g c) (signed_accepted g.S.Set.set g.H.Xof.front g.row.K g.row.L c.args.self.now c.args.seed.now (input_of c.args.input.now) _ g.S.Set.known
    (λ input. omega (arith, g.met.H.Xof.front_size input, g.met.H.Xof.front_least)) sizes.rows sizes.columns parts)
