use Rattle.std.proofs.Common.{◌≡◌, Ok, false, rules}
use Rattle.fips204.specs.Sets.{named_set}
use Rattle.mlsign_engine.proofs.KeyPairs.{known_set, not_a_pair}
use Rattle.mlsign_engine.proofs.keys.check_expanded.Goals as goal

pub returns-then-not-branch-clause-fault : goal.returns-then-not-branch-clause-fault
returns-then-not-branch-clause-fault c =
    let p = named_set c.args.set in
    let no : c.is_pair.result ≡ Ok false = search rules in
    not_a_pair p (c.key_bytes.ensures p (known_set c.args.set)) c.args.expanded.now c.is_pair.result c.requires c.is_pair.ensures no
