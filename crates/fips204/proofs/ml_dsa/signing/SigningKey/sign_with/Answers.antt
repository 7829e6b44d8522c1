use Rattle.std.proofs.Common.{rules, ◌≡◌, ◌≤◌, ◌+◌, ◌∙◌, ◌++◌, ℕ, List, [], take, append-nil, append_assoc, ap, sym, refl, arith, true, false, Err}
use Rattle.fips204.proofs.Names.{PrivateParts, PreparedPrivate, set_of, mask_seed, sign_with}
use Rattle.fips204.proofs.ParameterSets.{limits}
use Rattle.fips204.proofs.Signing.{answer_from, answer-rejected, answer-signed, answer-limit, answer-none, counter_fits, tries, sign_with-is}
use Rattle.fips204.proofs.Writing.{writes_made, writes_nothing}
use Rattle.fips204.proofs.ml_dsa.signing.SigningKey.sign_with.Given.{Over}
use Rattle.fips204.proofs.ml_dsa.signing.SigningKey.sign_with.Goals as goal
use Rattle.fips204.proofs.ml_dsa.signing.SigningKey.sign_with.Goals.{After-hash-mask_seed}

seed-is : (g : Over) (c : After-hash-mask_seed g) → c.hash-mask_seed.result ≡ mask_seed g.H.Xof.front c.args.self.now.parts c.args.rnd.now c.args.mu.now
seed-is g c =
    c.hash-mask_seed.ensures ∙ ap (λ l. take 64 (g.H.Xof.front l)) (joined c.as_slice.result.now c.args.rnd.now c.args.mu.now ∙ ap (λ k. k ++ c.args.rnd.now ++ c.args.mu.now) (c.as_slice.ensures ∙ ap (λ (k : PrivateParts). k.key) c.key.view_is ∙ ap (λ (k : PreparedPrivate). k.parts.key) c.self.view_is))
  where
    joined : (a b c : List ℕ) → a ++ (b ++ (c ++ [])) ≡ (a ++ b) ++ c
    joined a b c = simp (append-nil, append_assoc)

start : (g : Over) (c : After-hash-mask_seed g) → sign_with (set_of c.args.p.now) g.H.Xof.front c.args.self.now.matrix c.args.self.now.parts c.args.mu.now c.args.rnd.now
    ≡ answer_from (tries (set_of c.args.p.now) g.H.Xof.front c.args.self.now.matrix c.args.self.now.parts c.args.mu.now c.hash-mask_seed.result g.row.L) 0 814
start g c =
    sign_with-is (set_of c.args.p.now) g.H.Xof.front c.args.self.now.matrix c.args.self.now.parts c.args.mu.now c.args.rnd.now c.hash-mask_seed.result g.row.L (seed-is g c) c.requires.sizes.columns

pub loop-n-init : goal.loop-n-init
loop-n-init g c =
    let few : g.row.L ≤ 7 = rw c.requires.sizes.columns (limits c.args.p.now (search rules)).few_columns in
    (few, (omega arith, (refl, refl)))

pub returns-in_err-attempt : goal.returns-in_err-attempt
returns-in_err-attempt g c =
    let refused : c.from_residual.result ≡ Err c.in_err-attempt.field-0.0 = search rules in
    let kept = c.in_err-attempt.ensures.kept (λ e. absurd cc) ∙ c.loop-n.invariant.1.1.1 in
    writes_nothing _ _ _ _ _ (start g (goal.at.returns-in_err-attempt g c).After-hash-mask_seed ∙ c.loop-n.invariant.1.1.0 ∙ answer-limit _ c.loop-n.n c.in_err-attempt.field-0.0 c.loop-n-test.true (sym c.in_err-attempt.ensures.answer)) kept refused

pub returns-then-branch : goal.returns-then-branch
returns-then-branch g c =
    let accepted : c.in_ok-attempt.field-0 ≡ true = search rules in
    writes_made _ _ _ (start g (goal.at.returns-then-branch g c).After-hash-mask_seed ∙ c.loop-n.invariant.1.1.0 ∙ answer-signed _ c.loop-n.n c.attempt.new.signature c.loop-n-test.true (sym (rw accepted at c.in_ok-attempt.ensures.answer)))

pub loop-n-preserved : goal.loop-n-preserved
loop-n-preserved g c =
    let few = c.loop-n.invariant.0 in
    let rejected : c.in_ok-attempt.field-0 ≡ false = search rules in
    let answer = rw rejected at c.in_ok-attempt.ensures.answer in
    let kept = (rw rejected at c.in_ok-attempt.ensures.kept) (λ e. absurd cc) in (
      few,
      (
        counter_fits (c.loop-n.n + 1) g.row.L (omega (arith, c.loop-n-test.true)) few,
        (
          c.loop-n.invariant.1.1.0 ∙ answer-rejected _ c.loop-n.n c.loop-n-test.true (sym answer),
          kept ∙ c.loop-n.invariant.1.1.1,
        ),
      ),
    )

pub returns : goal.returns
returns g c =
    let end : c.loop-n.n ≡ 814 = omega (arith, c.loop-n-test.false, c.loop-n.auto.n-end) in
    writes_nothing _ _ _ _ _ (start g (goal.at.returns g c).After-hash-mask_seed ∙ c.loop-n.invariant.1.1.0 ∙ answer-none _ c.loop-n.n end) c.loop-n.invariant.1.1.1 refl
