use Rattle.std.proofs.Common.{take}
use Rattle.std.specs.List.{AllWithin}
use Rattle.sha2.specs.Hashers.{Holds256}
use Rattle.mldsa_examples.specs.Manifest.{spelling, IsEntry}
use Rattle.mldsa_examples.proofs.manifest.digest_of.Given as goal

abbrev pub invariant-loop-entry : goal.invariant-loop-entry
invariant-loop-entry l = Holds256 l.hasher (spelling (take l.entry-index l.entries)) × AllWithin IsEntry l.entries 0 l.entry-index
