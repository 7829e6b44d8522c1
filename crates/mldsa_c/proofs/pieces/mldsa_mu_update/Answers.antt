use Rattle.std.proofs.Common.{rules, ◌≡◌, ◌++◌, List, ℕ, length, refl}
use Rattle.fips204_shake.specs.Pieces.{HashesSaved}
use Rattle.mldsa_c.proofs.pieces.mldsa_mu_update.Goals as goal

pub returns : goal.returns
returns c =
    let state = c.args.state.now in
    let size : length state ≡ 337 = search rules in
    let saved : c.in-Some.saved.now ≡ state = search rules in
    let held = rw saved at c.in-Some-restore.ensures in
    let taken = λ (tr context m : List ℕ) (before : HashesSaved state tr context m).
    c.save.ensures tr context (m ++ c.args.piece.now) (c.update.ensures tr context m (held.1 tr context m before)) in
    (λ _. (λ _. (taken, refl), λ never. absurd (never held.0)), λ differ. absurd (differ size))
