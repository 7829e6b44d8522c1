use Rattle.std.proofs.Common.{◌≡◌, Err, length, ◌∙◌, ap, rules}
use Rattle.std.proofs.lemmas.List.{take_at}
use Rattle.fips204.specs.PreparedBytes.{prepared_public_length}
use Rattle.fips204.specs.Sets.{named_set}
use Rattle.fips204.specs.declared.sets.SetName.{SetName}
use Rattle.mlsign_engine.specs.Commands.{fault_of}
use Rattle.mlsign_engine.proofs.KeyPairs.{public_prepared}
use Rattle.mlsign_engine.proofs.prepared.VerifyingKey.new.Goals as goal

pub returns-in_err-prepare_public_key-clause-fault : goal.returns-in_err-prepare_public_key-clause-fault
returns-in_err-prepare_public_key-clause-fault c =
    let key = c.args.key in
    let p = named_set key.algorithm in
    let size : length c.as_mut_slice-room.result.now ≡ prepared_public_length p =
    c.as_mut_slice-room.ensures.len ∙ c.in_ok-prepared.ensures.len ∙ c.prepared_public_key_len.ensures
    ∙ ap (λ (set : SetName). prepared_public_length (named_set set)) c.algorithm-set.ensures in
    let told = public_prepared p key.bytes _ _ c.prepare_public_key.result c.bytes.ensures.size size
    (rw (c.algorithm-set.ensures, c.bytes.ensures.bytes) at c.prepare_public_key.ensures) in
    let refused = rw c.in_err-prepare_public_key.was at told in
    let is : c.from_residual-in_err-prepare_public_key.result ≡ Err (fault_of c.in_err-prepare_public_key.field-0.0) = search rules in
    rw (is, refused.1) refused.2

pub invariant_of-result : goal.invariant_of-result
invariant_of-result c =
    let told = rw (c.algorithm-set.ensures, c.bytes.ensures.bytes, c.in_ok-prepare_public_key.was) at c.prepare_public_key.ensures in
    rw (take_at c.prepare_public_key.new.prepared _ _ (c.prepare_public_key.auto.prepared ∙ c.as_mut_slice-room.ensures.len))
    (c.bytes.ensures.size, c.hash.ensures, (c.as_mut_slice-room.result.now, told))
