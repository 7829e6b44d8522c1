-- What it changes that the output of the XOFs has an end here, and none in the standard (FIPS 202, 6.2; FIPS 204, 3.7).
use Rattle.std.specs.Prelude.{◌≤◌, ℕ}
use Rattle.fips204_base.specs.Streams.{XOF, ArePrefixes}
use Rattle.fips204.specs.LongerFronts.{SamplesStay, AnswersStay, AcceptanceStays}
use Rattle.fips204.specs.ParameterSets.{ParameterSet, IsSet}
use Rattle.fips204_shake.specs.Fronts.{shake256_front, shake128_front}
use Rattle.shake.specs.Shake.{shake256, shake128}

-- the first d bytes of SHAKE256 and of SHAKE128
abbrev pub first_256 : ℕ → XOF
first_256 d input = shake256 input d

abbrev pub first_128 : ℕ → XOF
first_128 d input = shake128 input d

-- however much of the output there is, the bounded outputs are its beginning; and over the longer output, as over the standard's, which has no end, no sampler
-- gives another value, no call another result unless it was `SamplingLimit`, and no signature another verdict where that is decided
pub record EndsAlone (d e : ℕ) : Type 0 where
  pub h : ArePrefixes shake256_front (first_256 d)
  pub g : ArePrefixes shake128_front (first_128 e)
  pub samples : SamplesStay shake256_front shake128_front (first_256 d) (first_128 e)
  pub answers : (p : ParameterSet) → IsSet p → AnswersStay p shake256_front shake128_front (first_256 d) (first_128 e)
  pub verdicts : (p : ParameterSet) → IsSet p → AcceptanceStays p shake256_front shake128_front (first_256 d) (first_128 e)

abbrev pub OnlyLimitsDiffer : Type 0
OnlyLimitsDiffer = (d e : ℕ) → 1048576 ≤ d → 1048576 ≤ e → EndsAlone d e
