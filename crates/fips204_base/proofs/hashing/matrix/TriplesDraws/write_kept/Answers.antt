use Rattle.std.proofs.Common.{◌≡◌, ◌∙◌, ◌+◌, ◌++◌, ap, arith, sym, take, append_assoc, append-nil}
use Rattle.fips204_base.proofs.Names.{option_to_list, kept_triples, triple, keeps_there, keeps_joined, keeps_next, kept_triples-joined, kept_triples-zero, kept_triples-more, triple-at}
use Rattle.fips204_base.proofs.hashing.matrix.TriplesDraws.write_kept.Goals as goal

pub loop-p-init : goal.loop-p-init
loop-p-init c =
    let none = kept_triples-zero c.args.piece.now in
    rw (none, append-nil (take c.args.count c.args.values.now)) (keeps_there c.args.values.now c.args.count c.told-values c.requires.room)

pub loop-p-preserved : goal.loop-p-preserved
loop-p-preserved c =
    let piece = c.args.piece.now in
    let p = c.loop-p.p in
    let before = take c.args.count c.args.values.now in
    let one = option_to_list (triple piece p) in
    let given = c.write_kept-kept.ensures.kept ∙ ap (λ o. take 256 (take c.loop-p.kept c.loop-p.values ++ option_to_list o)) (c.coeff_from_three_bytes.ensures ∙ sym (triple-at piece p)) in
    let kept = keeps_joined one c.loop-p.invariant c.write_kept-kept.array_long c.write_kept-kept.ensures.count given in
    let more : before ++ kept_triples piece (p + 1) ≡ (before ++ kept_triples piece p) ++ one =
    ap (λ l. before ++ l) (kept_triples-more piece p) ∙ sym (append_assoc before (kept_triples piece p) one) in
    rw more kept

pub returns-clause-kept : goal.returns-clause-kept
returns-clause-kept c = λ front tried read before.
    let n = c.args.n in
    let l = c.loop-p in
    let end : l.p ≡ n = omega (arith, c.loop-p-test.false, l.auto.p-end) in
    let kept = rw end at l.invariant in
    let joined = kept_triples-joined front tried n ∙ ap (λ p. kept_triples front tried ++ kept_triples p n) (sym read) in
    keeps_next c.args.values.now l.values (kept_triples front tried) (kept_triples c.args.piece.now n) (kept_triples front (tried + n)) c.args.count l.kept
    c.told-values kept.whole c.requires.room kept.within joined kept.same before
