use Rattle.std.proofs.Common.{inl, refl}
use Rattle.fips204.proofs.callers.rounding_of_44.Goals as goal

pub returns-clause-hint : goal.returns-clause-hint
returns-clause-hint c = λ z r. c.use_hint_of_make_hint.ensures 95232 z r (inl refl)

pub returns-clause-near : goal.returns-clause-near
returns-clause-near c = λ r below. (c.use_hint_distance.ensures 95232 r (inl refl) below).1

pub returns-clause-same : goal.returns-clause-same
returns-clause-same c = λ r s. c.high_bits_stay.ensures 95232 r s 78 (inl refl)

pub returns-clause-without : goal.returns-clause-without
returns-clause-without c = λ r below. (c.use_hint_distance.ensures 95232 r (inl refl) below).0
