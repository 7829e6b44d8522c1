-- The numbers that the exported calls return, and their texts. `c/exports.py` made this file from c/mldsa.h: edit that one.
use Rattle.std.specs.Prelude.{ℕ, List, [], ◌∷◌, codes}
use Rattle.fips204_base.specs.Faults.{words}
use Rattle.fips204_base.specs.declared.fault.Fault.{Fault}
use Rattle.fips204_base.specs.declared.fault.Fault.TheVariants.{KeyGenRng, SignCtx, SignRng, HashCtx, OidEmpty, OidNotDer, DigestTooLong, DigestLength, HashRng, InternalRng, TooManyAttempts, KeyRange, SamplingLimit}
use Rattle.fips204_shake.specs.DerFaults.{sentence}
use Rattle.fips204_shake.specs.declared.der.fault.DerFault.{DerFault}
use Rattle.fips204_shake.specs.declared.der.fault.DerFault.TheVariants.{Short, Behind, Element, Version, OtherAlgorithm, KeyLength}
use Rattle.fips204_shake.specs.declared.pem.fault.PemFault.{PemFault}
use Rattle.fips204_shake.specs.declared.pem.fault.PemFault.TheVariants.{NotPem, Encrypted, Certificate, OtherKind, OtherLabel, CutShort, Behind, Damaged, TooLong}

-- the status of each fault; no call has one of a generator, since the caller gives the random bytes
abbrev pub status_of : Fault → ℕ
status_of KeyGenRng = 252
status_of SignCtx = 4
status_of SignRng = 253
status_of HashCtx = 5
status_of OidEmpty = 6
status_of OidNotDer = 7
status_of DigestTooLong = 8
status_of DigestLength = 9
status_of HashRng = 254
status_of InternalRng = 255
status_of TooManyAttempts = 10
status_of KeyRange = 11
status_of SamplingLimit = 12

-- the status of each fault of DER
abbrev pub status_of_der : DerFault → ℕ
status_of_der Short = 15
status_of_der Behind = 16
status_of_der Element = 17
status_of_der Version = 18
status_of_der OtherAlgorithm = 19
status_of_der KeyLength = 20

-- the status of each fault of PEM
abbrev pub status_of_pem : PemFault → ℕ
status_of_pem NotPem = 24
status_of_pem Encrypted = 25
status_of_pem Certificate = 26
status_of_pem OtherKind = 27
status_of_pem OtherLabel = 28
status_of_pem CutShort = 29
status_of_pem Behind = 30
status_of_pem Damaged = 31
status_of_pem TooLong = 20

-- the text of a number that no call returns
abbrev pub no_status : List ℕ
no_status = codes "no result of this library"

-- the text of each number from 0 on
abbrev pub texts : List (List ℕ)
texts =
    codes "no error, or the result yes" ∷
    no_status ∷
    codes "no" ∷
    codes "an array has the wrong length" ∷
    words SignCtx ∷
    words HashCtx ∷
    words OidEmpty ∷
    words OidNotDer ∷
    words DigestTooLong ∷
    words DigestLength ∷
    words TooManyAttempts ∷
    codes "the private key is damaged: s1 or s2 is out of range" ∷
    words SamplingLimit ∷
    codes "the state of a message in pieces is broken" ∷
    codes "no call has written this prepared key" ∷
    sentence Short ∷
    sentence Behind ∷
    sentence Element ∷
    sentence Version ∷
    sentence OtherAlgorithm ∷
    sentence KeyLength ∷
    codes "its key is one of another parameter set" ∷
    codes "the private key is not consistent" ∷
    codes "it has no seed: an expanded key does not reveal its seed" ∷
    codes "it is not in PEM: no line -----BEGIN comes first" ∷
    codes "it is encrypted: decrypt it first" ∷
    codes "it has a certificate: take the key out of it" ∷
    codes "it has a key of another kind" ∷
    codes "it has a key of another kind, or something else than a key" ∷
    codes "it is cut short" ∷
    codes "more follows behind its end" ∷
    codes "its text is damaged" ∷
    []
