-- No fault has the number of success, here or elsewhere. `c/exports.py` made this file from c/mldsa.h: edit that one.
use Rattle.std.proofs.Common.{◌≡◌}
use Rattle.fips204_base.specs.declared.fault.Fault.{Fault}
use Rattle.fips204_base.specs.declared.fault.Fault.TheVariants.{KeyGenRng, SignCtx, SignRng, HashCtx, OidEmpty, OidNotDer, DigestTooLong, DigestLength, HashRng, InternalRng, TooManyAttempts, KeyRange, SamplingLimit}
use Rattle.mldsa_c.specs.Numbers.{status_of}

pub not_done : (fault : Fault) → ¬ (0 ≡ status_of fault)
not_done KeyGenRng = λ e. absurd cc
not_done SignCtx = λ e. absurd cc
not_done SignRng = λ e. absurd cc
not_done HashCtx = λ e. absurd cc
not_done OidEmpty = λ e. absurd cc
not_done OidNotDer = λ e. absurd cc
not_done DigestTooLong = λ e. absurd cc
not_done DigestLength = λ e. absurd cc
not_done HashRng = λ e. absurd cc
not_done InternalRng = λ e. absurd cc
not_done TooManyAttempts = λ e. absurd cc
not_done KeyRange = λ e. absurd cc
not_done SamplingLimit = λ e. absurd cc

pub not_one : (fault : Fault) → ¬ (1 ≡ status_of fault)
not_one KeyGenRng = λ e. absurd cc
not_one SignCtx = λ e. absurd cc
not_one SignRng = λ e. absurd cc
not_one HashCtx = λ e. absurd cc
not_one OidEmpty = λ e. absurd cc
not_one OidNotDer = λ e. absurd cc
not_one DigestTooLong = λ e. absurd cc
not_one DigestLength = λ e. absurd cc
not_one HashRng = λ e. absurd cc
not_one InternalRng = λ e. absurd cc
not_one TooManyAttempts = λ e. absurd cc
not_one KeyRange = λ e. absurd cc
not_one SamplingLimit = λ e. absurd cc
