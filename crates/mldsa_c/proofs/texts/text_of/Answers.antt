use Rattle.std.proofs.Common.{◌≤◌, length, subst, sym}
use Rattle.mldsa_c.proofs.TextLengths.{short}
use Rattle.mldsa_c.proofs.texts.text_of.Goals as goal

pub returns-clause-short : goal.returns-clause-short
returns-clause-short c = subst (λ text. length text ≤ 63) (sym c.text_at.ensures) (short c.args.number)
