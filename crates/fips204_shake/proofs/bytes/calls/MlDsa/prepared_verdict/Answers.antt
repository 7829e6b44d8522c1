use Rattle.std.proofs.Common.{refl, Some}
use Rattle.fips204_shake.proofs.bytes.calls.MlDsa.prepared_verdict.Goals as goal

pub returns-in-Some : goal.returns-in-Some
returns-in-Some g c =
    let sizes = g.met.S.KeySizes.key_sizes in
    let there = rw (sizes.rows, sizes.columns, c.array_of.ensures) at c.in-Some.ensures in
    (Some there.0, there.1, (c.in-Some.verdict, there.2, refl))
