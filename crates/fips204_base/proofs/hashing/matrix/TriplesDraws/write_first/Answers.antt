use Rattle.std.proofs.Common.{◌∙◌, ◌++◌, ap, sym, take}
use Rattle.fips204_base.proofs.Names.{kept_triples, kept_triples-joined, kept_triples-zero}
use Rattle.fips204_base.proofs.hashing.matrix.TriplesDraws.write_first.Goals as goal

pub returns-clause-kept : goal.returns-clause-kept
returns-clause-kept c = λ front read.
    c.write_first_triples.ensures.kept ∙ ap (λ p. take 256 (kept_triples p 256)) read
    ∙ ap (λ l. take 256 (l ++ kept_triples (take 768 front) 256)) (sym (kept_triples-zero front)) ∙ ap (take 256) (sym (kept_triples-joined front 0 256))
