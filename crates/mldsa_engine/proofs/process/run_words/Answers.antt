use Rattle.mldsa_engine.proofs.process.run_words.Goals as goal

pub returns-in-Ok-clause-ran : goal.returns-in-Ok-clause-ran
returns-in-Ok-clause-ran g c =
    let told = c.from_words.ensures in
    rw (c.in-Ok.is, ← c.as_slice.ensures.value)
    (c.from_words.result, c.end.ensures, (told.usage, told.answer, told.line_fault, told.nothing_written))
