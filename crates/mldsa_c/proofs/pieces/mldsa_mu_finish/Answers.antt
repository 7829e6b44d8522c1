use Rattle.std.proofs.Common.{rules, ◌≡◌, ◌∙◌, List, ℕ, length, refl}
use Rattle.fips204_shake.specs.Pieces.{HashesSaved}
use Rattle.mldsa_c.proofs.pieces.mldsa_mu_finish.Goals as goal

pub returns : goal.returns
returns c =
    let state = c.args.state.now in
    let long : length c.args.mu.now ≡ 64 = search rules in
    let size : length state ≡ 337 = search rules in
    let saved : c.in-Some.saved.now ≡ state = search rules in
    let held = rw saved at c.in-Some-restore.ensures in
    let hashed = λ (tr context m : List ℕ) (before : HashesSaved state tr context m). c.copy_from_slice.ensures.after ∙ c.finalize.ensures tr context m (held.1 tr context m before) in
    (λ _. (λ _. (λ _. (hashed, refl), λ never. absurd (never held.0)), λ differ. absurd (differ size)), λ differ. absurd (differ long))
