use Rattle.std.proofs.Common.{refl, Err}
use Rattle.fips204_base.specs.declared.fault.Fault.TheVariants.{KeyRange}
use Rattle.fips204_shake.specs.declared.bytes.refusal.Refusal.TheVariants.{Library}
use Rattle.fips204_shake.proofs.bytes.callers.range_parts.Goals as goal

pub returns-clause-above : goal.returns-clause-above
returns-clause-above c = λ p key answer i known small long checks below some. (c.key_range.ensures p known key answer small long checks).1 (i, below, some)

pub returns-clause-some : goal.returns-clause-some
returns-clause-some c = λ p key known small long checks. (c.key_range.ensures p known key (Err (Library KeyRange)) small long checks).0 refl
