-- The words of each error.
use Rattle.std.specs.Prelude.{codes}
use Rattle.fips204_base.specs.Streams.{Bytes}
use Rattle.fips204_base.specs.declared.fault.Fault.{Fault}
use Rattle.fips204_base.specs.declared.fault.Fault.TheVariants.{KeyGenRng, SignCtx, SignRng, HashCtx, OidEmpty, OidNotDer, DigestTooLong, DigestLength, HashRng, InternalRng, TooManyAttempts, KeyRange, SamplingLimit}

-- the words of an error, as bytes
abbrev pub words : Fault → Bytes
words KeyGenRng = codes "KeyGen: Random number generator failed"
words SignCtx = codes "ML-DSA.Sign: ctx too long"
words SignRng = codes "ML-DSA.Sign: random number generator failed"
words HashCtx = codes "HashML-DSA.Sign: ctx too long"
words OidEmpty = codes "HashML-DSA.Sign: OID is empty"
words OidNotDer = codes "HashML-DSA.Sign: OID is not DER encoded"
words DigestTooLong = codes "Hash of message is too long, should not be more than 1KiB"
words DigestLength = codes "HashML-DSA.Sign: digest length does not match the OID"
words HashRng = codes "HashML-DSA.Sign: random number generator failed"
words InternalRng = codes "ML-DSA.Sign_internal: random number generator failed"
words TooManyAttempts = codes "ML-DSA.Sign: too many attempts"
words KeyRange = codes "Alg 25: s1 or s2 out of range"
words SamplingLimit = codes "sampling limit reached"
