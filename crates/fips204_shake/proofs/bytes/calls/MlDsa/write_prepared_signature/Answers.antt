use Rattle.std.proofs.Common.{rules, ◌≡◌, Some, Result, Ok, Err, MatchOption}
use Rattle.fips204_base.specs.declared.fault.Fault.{Fault}
use Rattle.fips204_base.specs.Streams.{Bytes}
use Rattle.fips204.specs.Inputs.{input_of}
use Rattle.fips204.specs.Prepared.{PreparedPrivate, sign_prepared}
use Rattle.fips204.specs.PreparedBytes.{IsPreparedPrivateOf}
use Rattle.fips204.specs.Refusals as library
use Rattle.fips204_shake.proofs.Written.{signature_written, nothing_written, prepared_found}
use Rattle.fips204_shake.proofs.bytes.calls.MlDsa.write_prepared_signature.Given.{Over}
use Rattle.fips204_shake.proofs.bytes.calls.MlDsa.write_prepared_signature.Goals as goal
use Rattle.fips204_shake.proofs.bytes.calls.MlDsa.write_prepared_signature.Goals.{After-write_signature_by_bytes}

-- whether a prepared key has the bytes, and what it makes
abbrev has : (g : Over) (c : After-write_signature_by_bytes g) → PreparedPrivate → Type 0
has g c sk = IsPreparedPrivateOf g.S.Set.set.eta g.S.Set.set.k g.S.Set.set.l c.args.prepared.now sk

abbrev makes : (g : Over) (c : After-write_signature_by_bytes g) → PreparedPrivate → Result Bytes Fault
makes g c sk = sign_prepared g.S.Set.set g.H.Xof.front sk c.args.random.now (input_of c.args.input.now)

found : (g : Over) (c : After-write_signature_by_bytes g) → MatchOption c.write_signature_by_bytes.result ((sk : PreparedPrivate) → has g c sk → ⊥)
    (λ r. (sk : PreparedPrivate) × has g c sk × library.Writes (makes g c sk) c.args.signature.now c.write_signature_by_bytes.new.signature r)
found g c =
    let sizes = g.met.S.KeySizes.key_sizes in
    let same : c.unwrap-signature.result.now ≡ c.args.signature.now = search rules in
    rw (sizes.rows, sizes.columns, same) at c.write_signature_by_bytes.ensures.found

pub returns-in-Some-Err : goal.returns-in-Some-Err
returns-in-Some-Err g c =
    let at = (goal.at.returns-in-Some-Err g c).After-write_signature_by_bytes in
    let is : c.write_signature_by_bytes.result ≡ Some (Err c.in-Some-Err.fault) = search rules in
    let there = prepared_found (has g at) (makes g at) _ _ _ (Err c.in-Some-Err.fault) is (found g at) in
    (Some there.0, there.1, nothing_written (makes g at there.0) _ _ c.in-Some-Err.fault there.2)

pub returns-in-Some-Ok : goal.returns-in-Some-Ok
returns-in-Some-Ok g c =
    let at = (goal.at.returns-in-Some-Ok g c).After-write_signature_by_bytes in
    let is : c.write_signature_by_bytes.result ≡ Some (Ok tt) = search rules in
    let there = prepared_found (has g at) (makes g at) _ _ _ (Ok tt) is (found g at) in
    (Some there.0, there.1, signature_written (makes g at there.0) _ _ there.2)
