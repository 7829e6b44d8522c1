use Rattle.std.proofs.Common.{ap, inl, inr, arith}
use Rattle.fips204.proofs.Names.{ParameterSet}
use Rattle.fips204.proofs.callers.columns_of_six_rows.Goals as goal

pub returns : goal.returns
returns c = elim c.known_set.ensures [
  | inl is ↦ absurd (omega (arith, c.requires, ap (λ (p : ParameterSet). p.k) is))
  | inr (inl is) ↦ ap (λ (p : ParameterSet). p.l) is
  | inr (inr is) ↦ absurd (omega (arith, c.requires, ap (λ (p : ParameterSet). p.k) is))
]
