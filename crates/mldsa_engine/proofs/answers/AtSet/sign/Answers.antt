use Rattle.std.proofs.Common.{Ok, Err}
use Rattle.fips204.specs.Keys.{DecodesPrivate}
use Rattle.mldsa_engine.proofs.Verdicts.{signs_told}
use Rattle.mldsa_engine.proofs.answers.AtSet.sign.Goals as goal

pub returns-in-Ok-try_sign_with_seed-clause-given : goal.returns-in-Ok-try_sign_with_seed-clause-given
returns-in-Ok-try_sign_with_seed-clause-given g c =
    let p = g.S.Set.set in
    let sizes = g.met.S.KeySizes.key_sizes in
    let decodes : DecodesPrivate p.eta p.k p.l c.args.key.now (Ok c.in-Ok.key) = rw (← sizes.rows, ← sizes.columns, ← c.array_of.ensures) c.in-Ok.ensures in
    signs_told (λ output. output.text.items) (λ output. output.success) p _ _ _ _ _ _ (Ok c.in-Ok.key) c.one_line.result decodes
    (rw (← c.try_sign_with_seed.ensures.answer, c.in-Ok-try_sign_with_seed.is) c.one_line.ensures.given)

pub returns-in-Err-try_sign_with_seed-clause-given : goal.returns-in-Err-try_sign_with_seed-clause-given
returns-in-Err-try_sign_with_seed-clause-given g c =
    let p = g.S.Set.set in
    let sizes = g.met.S.KeySizes.key_sizes in
    let decodes : DecodesPrivate p.eta p.k p.l c.args.key.now (Ok c.in-Ok.key) = rw (← sizes.rows, ← sizes.columns, ← c.array_of.ensures) c.in-Ok.ensures in
    signs_told (λ output. output.text.items) (λ output. output.success) p _ _ _ _ _ _ (Ok c.in-Ok.key) c.refuse.result decodes
    (rw (← c.try_sign_with_seed.ensures.answer, c.in-Err-try_sign_with_seed.is) c.refuse.ensures.given)

pub returns-in-Err-clause-given : goal.returns-in-Err-clause-given
returns-in-Err-clause-given g c =
    let p = g.S.Set.set in
    let sizes = g.met.S.KeySizes.key_sizes in
    let decodes : DecodesPrivate p.eta p.k p.l c.args.key.now (Err c.in-Err.fault) = rw (← sizes.rows, ← sizes.columns, ← c.array_of.ensures) c.in-Err.ensures in
    signs_told (λ output. output.text.items) (λ output. output.success) p _ _ _ _ _ _ (Err c.in-Err.fault) c.refuse-in-Err.result decodes c.refuse-in-Err.ensures.given
