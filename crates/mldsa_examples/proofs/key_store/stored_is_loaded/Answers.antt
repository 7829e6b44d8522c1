use Rattle.std.proofs.Common.{refl, inl}
use Rattle.fips204.specs.ParameterSets.{set_44}
use Rattle.mldsa_examples.proofs.KeyFiles.{loads_stored, loads_stored_public}
use Rattle.mldsa_examples.proofs.key_store.stored_is_loaded.Goals as goal

pub returns : goal.returns
returns c =
    let tell = c.key_bytes.ensures set_44 (inl refl) in
    record { private = loads_stored tell; public = loads_stored_public tell }
