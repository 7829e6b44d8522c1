use Rattle.std.proofs.Common.{inl, refl}
use Rattle.fips204.proofs.Names.{set_44}
use Rattle.fips204.proofs.callers.decided_verdict.Goals as goal

pub returns : goal.returns
returns c = λ pk input signature decided.
    let stays = (c.longer_front.ensures c.counter_fronts.ensures.sha256 c.counter_fronts.ensures.sha512).1 set_44 (inl refl) in
    ((stays.1.inputs pk signature input).no_stays (inl decided)).1
