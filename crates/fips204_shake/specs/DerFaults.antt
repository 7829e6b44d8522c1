-- The sentence about a file whose DER has a fault.
use Rattle.std.specs.Prelude.{ℕ, List, codes}
use Rattle.fips204_shake.specs.declared.der.fault.DerFault.{DerFault}
use Rattle.fips204_shake.specs.declared.der.fault.DerFault.TheVariants.{Short, Behind, Element, Version, OtherAlgorithm, KeyLength}

-- the sentence, as bytes
abbrev pub sentence : DerFault → List ℕ
sentence Short = codes "its DER is cut short"
sentence Behind = codes "more follows behind the end of its DER"
sentence Element = codes "its DER is damaged"
sentence Version = codes "it has a private key of another version"
sentence OtherAlgorithm = codes "its key is not one of ML-DSA-44, ML-DSA-65 or ML-DSA-87"
sentence KeyLength = codes "its key has a wrong length"
