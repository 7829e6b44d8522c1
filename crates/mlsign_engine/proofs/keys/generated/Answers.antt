use Rattle.std.proofs.Common.{◌≡◌, Err, length, ◌∙◌, rules}
use Rattle.std.proofs.lemmas.List.{take_at}
use Rattle.fips204.specs.Sets.{named_set}
use Rattle.fips204.specs.ParameterSets.{public_key_length, private_key_length}
use Rattle.mlsign_engine.specs.Commands.{fault_of}
use Rattle.mlsign_engine.proofs.KeyPairs.{known_set, seed_written}
use Rattle.mlsign_engine.proofs.keys.generated.Goals as goal

pub returns-in_err-keygen-clause-fault : goal.returns-in_err-keygen-clause-fault
returns-in_err-keygen-clause-fault c =
    let p = named_set c.args.set in
    let first : length c.as_mut_slice-first.result.now ≡ public_key_length p = c.as_mut_slice-first.ensures.len ∙ c.in_ok-public.ensures.len ∙ c.public_key_len.ensures in
    let second : length c.as_mut_slice-second.result.now ≡ private_key_length p = c.as_mut_slice-second.ensures.len ∙ c.in_ok-private.ensures.len ∙ c.private_key_len.ensures in
    let told = seed_written p c.signed_is_accepted.ensures (known_set c.args.set) c.args.seed.now _ c.keygen.new.public_key _ c.keygen.new.private_key c.keygen.result
    c.requires first second (c.keygen.auto.public_key ∙ first) (c.keygen.auto.private_key ∙ second) (rw c.array_of-seed.ensures at c.keygen.ensures) in
    let refused = rw c.in_err-keygen.was at told in
    let is : c.from_residual-in_err-keygen.result ≡ Err (fault_of c.in_err-keygen.field-0.0) = search rules in
    rw (is, refused.1) refused.2

pub returns-clause-bytes : goal.returns-clause-bytes
returns-clause-bytes c =
    let p = named_set c.args.set in
    let first : length c.as_mut_slice-first.result.now ≡ public_key_length p = c.as_mut_slice-first.ensures.len ∙ c.in_ok-public.ensures.len ∙ c.public_key_len.ensures in
    let second : length c.as_mut_slice-second.result.now ≡ private_key_length p = c.as_mut_slice-second.ensures.len ∙ c.in_ok-private.ensures.len ∙ c.private_key_len.ensures in
    let told = seed_written p c.signed_is_accepted.ensures (known_set c.args.set) c.args.seed.now _ c.keygen.new.public_key _ c.keygen.new.private_key c.keygen.result
    c.requires first second (c.keygen.auto.public_key ∙ first) (c.keygen.auto.private_key ∙ second) (rw c.array_of-seed.ensures at c.keygen.ensures) in
    let has = rw c.in_ok-keygen.was at told in
    rw (
      take_at c.keygen.new.public_key _ _ (c.keygen.auto.public_key ∙ c.as_mut_slice-first.ensures.len),
      take_at c.keygen.new.private_key _ _ (c.keygen.auto.private_key ∙ c.as_mut_slice-second.ensures.len),
    ) has
