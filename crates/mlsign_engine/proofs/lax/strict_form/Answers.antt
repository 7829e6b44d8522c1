use Rattle.std.proofs.Common.{◌≡◌, IfOk, List, ℕ, subst}
use Rattle.mlsign_engine.proofs.LaxTexts.{strict_of_text}
use Rattle.mlsign_engine.proofs.lax.strict_form.Goals as goal

pub returns-clause-kept : goal.returns-clause-kept
returns-clause-kept c = λ der is.
    subst (λ (text : List ℕ). IfOk c.made_strict.result (λ out. out.items ≡ text)) (strict_of_text c.args.kind c.args.text.now der is) c.made_strict.ensures
