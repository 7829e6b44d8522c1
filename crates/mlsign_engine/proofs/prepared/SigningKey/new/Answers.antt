use Rattle.std.proofs.Common.{◌≡◌, Ok, length, ◌∙◌, ap, rules}
use Rattle.std.proofs.lemmas.List.{take_at}
use Rattle.fips204.specs.PreparedBytes.{prepared_private_length}
use Rattle.fips204.specs.Sets.{named_set}
use Rattle.fips204.specs.declared.sets.SetName.{SetName}
use Rattle.mlsign_engine.proofs.KeyPairs.{private_of, private_prepared}
use Rattle.mlsign_engine.proofs.prepared.SigningKey.new.Goals as goal

pub unwrap-requires : goal.unwrap-requires
unwrap-requires c =
    let pair = c.args.pair in
    let p = named_set pair.algorithm in
    let size : length c.as_mut_slice-room.result.now ≡ prepared_private_length p =
    c.as_mut_slice-room.ensures.len ∙ c.in_ok-prepared.ensures.len ∙ c.prepared_private_key_len.ensures
    ∙ ap (λ (set : SetName). prepared_private_length (named_set set)) c.algorithm-set.ensures in
    let told = rw (c.algorithm-set.ensures, c.private.ensures.bytes) at c.prepare_private_key.ensures in
    let done : c.prepare_private_key.result ≡ Ok tt =
    private_prepared p pair.parts pair.private _ _ c.prepare_private_key.result (private_of p pair.parts pair.public pair.private c.private.ensures.consistent) size told in
    search (rules, done)

pub invariant_of-result : goal.invariant_of-result
invariant_of-result c =
    let pair = c.args.pair in
    let p = named_set pair.algorithm in
    let size : length c.as_mut_slice-room.result.now ≡ prepared_private_length p =
    c.as_mut_slice-room.ensures.len ∙ c.in_ok-prepared.ensures.len ∙ c.prepared_private_key_len.ensures
    ∙ ap (λ (set : SetName). prepared_private_length (named_set set)) c.algorithm-set.ensures in
    let told = rw (c.algorithm-set.ensures, c.private.ensures.bytes) at c.prepare_private_key.ensures in
    let done : c.prepare_private_key.result ≡ Ok tt =
    private_prepared p pair.parts pair.private _ _ c.prepare_private_key.result (private_of p pair.parts pair.public pair.private c.private.ensures.consistent) size told in
    rw (take_at c.prepare_private_key.new.prepared _ _ (c.prepare_private_key.auto.prepared ∙ c.as_mut_slice-room.ensures.len))
    (c.as_mut_slice-room.result.now, rw done at told)
