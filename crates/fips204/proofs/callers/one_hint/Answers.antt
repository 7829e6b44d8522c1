use Rattle.fips204.proofs.callers.one_hint.Goals as goal

pub returns-clause-bytes : goal.returns-clause-bytes
returns-clause-bytes c = λ first second h. (c.hint_spelling.ensures 80 4 h).1 first second

pub returns-clause-hints : goal.returns-clause-hints
returns-clause-hints c = λ bytes h other. (c.hint_spelling.ensures 80 4 h).2 other bytes

pub returns-clause-spelled : goal.returns-clause-spelled
returns-clause-spelled c = λ h. (c.hint_spelling.ensures 80 4 h).0
