-- What reading DER gives, its fault as a file's.
use Rattle.std.specs.Prelude.{Result, Ok, Err}
use Rattle.fips204_shake.specs.declared.der.fault.DerFault.{DerFault}
use Rattle.mlsign_engine.specs.declared.fault.FileFault.{FileFault}
use Rattle.mlsign_engine.specs.declared.fault.FileFault.TheVariants.{Der}

abbrev pub of_der : {A : Type 0} → Result A DerFault → Result A FileFault
of_der (Ok x) = Ok x
of_der (Err fault) = Err (Der fault)
