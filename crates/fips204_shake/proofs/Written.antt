-- What the library writes in place, as the calls over bytes say it.
use Rattle.std.proofs.Common.{◌≡◌, refl, subst, Option, Some, None, Result, Ok, Err, MatchOption}
use Rattle.std.specs.Bool.{⊤}
use Rattle.fips204_base.specs.declared.fault.Fault.{Fault}
use Rattle.fips204_base.specs.Streams.{Bytes}
use Rattle.fips204.specs.Prepared.{PreparedPrivate}
use Rattle.fips204.specs.Refusals as library
use Rattle.fips204_shake.specs.Bytes.{Writes}
use Rattle.fips204_shake.specs.declared.bytes.refusal.Refusal.TheVariants.{Library}

pub signature_written : (made : Result Bytes Fault) (old new : Bytes) → library.Writes made old new (Ok tt) → Writes (λ signature. signature) made old new (Ok tt)
signature_written (Ok bytes) old new w = (w.0, refl)
signature_written (Err fault) old new w = absurd (let e = w.1 in cc)

pub nothing_written : (made : Result Bytes Fault) (old new : Bytes) (fault : Fault) → library.Writes made old new (Err fault) → Writes (λ signature. signature) made old new (Err (Library fault))
nothing_written (Ok bytes) old new fault w = absurd (let e = w.1 in cc)
nothing_written (Err why) old new fault w = (w.0, let e = w.1 in cc)

-- the prepared key that was found, where there is a result
pub prepared_found : (has : PreparedPrivate → Type 0) (makes : PreparedPrivate → Result Bytes Fault) (old new : Bytes) (found : Option (Result ⊤ Fault)) (answer : Result ⊤ Fault) → found ≡ Some answer
    → MatchOption found ((sk : PreparedPrivate) → has sk → ⊥) (λ r. (sk : PreparedPrivate) × has sk × library.Writes (makes sk) old new r)
    → (sk : PreparedPrivate) × has sk × library.Writes (makes sk) old new answer
prepared_found has makes old new None answer e m = absurd cc
prepared_found has makes old new (Some r) answer e m =
    let same : r ≡ answer = cc in
    (m.0, m.1, subst (λ x. library.Writes (makes m.0) old new x) same m.2)
