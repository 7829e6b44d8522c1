use Rattle.fips204.proofs.Binding.{signature_fixes_one, signature_binds_hash, signature_binds_input, signature_binds_key}
use Rattle.fips204.proofs.OtherHints.{other_hint_collides}
use Rattle.fips204.proofs.laws.binding.Goals as goal

pub returns-clause-fixed : goal.returns-clause-fixed
returns-clause-fixed _ = signature_fixes_one

pub returns-clause-inputs : goal.returns-clause-inputs
returns-clause-inputs _ = signature_binds_input

pub returns-clause-hashes : goal.returns-clause-hashes
returns-clause-hashes _ = signature_binds_hash

pub returns-clause-keys : goal.returns-clause-keys
returns-clause-keys _ = signature_binds_key

pub returns-clause-hints : goal.returns-clause-hints
returns-clause-hints _ = other_hint_collides
