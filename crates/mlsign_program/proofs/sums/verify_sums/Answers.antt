use Rattle.std.proofs.Common.{◌≡◌, ℕ, eqb, false, get_or, subst, sym, true}
use Rattle.std.proofs.lemmas.Bool.{eqb-true}
use Rattle.mlsign_program.proofs.Checking.{all_good, any_at, named_good}
use Rattle.mlsign_engine.specs.Commands.{Judges}
use Rattle.mlsign_program.specs.Outputs.{context_of}
use Rattle.mlsign_program.specs.Sums.{AcceptsList}
use Rattle.mlsign_program.proofs.sums.verify_sums.Goals as goal

differs : (n : ℕ) → false ≡ eqb n 0 → n ≡ 0 → ⊥
differs n is none = let zero : false ≡ true = rw none at is in cc

pub returns-then-is_empty : goal.returns-then-is_empty
returns-then-is_empty c =
    let judged = subst (λ valid. Judges (get_or c.loop-key.key-items c.loop-key.key-index c.key-item.result).key c.as_slice-signature.result.now (context_of c.args.words.now) c.as_slice-list.result.now valid) c.if-branch.true
    c.in_ok-accepts_list.ensures.judged in
    let accepted = any_at (AcceptsList c.args.words.now c.as_slice-signature.result.now c.as_slice-list.result.now) _ c.args.keys.now
    c.loop-key.key-index c.key-item.result c.loop-key.invariant c.loop-key-test.true c.key-item.is judged in
    all_good c.check_all.result _ _ _ _ _ c.as_slice-sums.result.now accepted (rw c.as_slice-sums.ensures.value c.in_ok-sums.ensures)
    (eqb-true _ _ (sym c.if-is_empty.ensures)) c.check_all.ensures

pub returns-then-branch : goal.returns-then-branch
returns-then-branch c =
    let judged = subst (λ valid. Judges (get_or c.loop-key.key-items c.loop-key.key-index c.key-item.result).key c.as_slice-signature.result.now (context_of c.args.words.now) c.as_slice-list.result.now valid) c.if-branch.true
    c.in_ok-accepts_list.ensures.judged in
    let accepted = any_at (AcceptsList c.args.words.now c.as_slice-signature.result.now c.as_slice-list.result.now) _ c.args.keys.now
    c.loop-key.key-index c.key-item.result c.loop-key.invariant c.loop-key-test.true c.key-item.is judged in
    named_good c.check_named.result _ _ _ _ _ c.as_slice-sums.result.now accepted (rw c.as_slice-sums.ensures.value c.in_ok-sums.ensures)
    (differs _ c.if-is_empty.ensures) c.check_named.ensures
