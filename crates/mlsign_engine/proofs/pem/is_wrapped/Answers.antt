use Rattle.std.proofs.Common.{◌∙◌, ap, sym, List, ℕ, ◌++◌}
use Rattle.std.proofs.lemmas.Bool.{eqb-true}
use Rattle.std.specs.Str.{bytes_eq}
use Rattle.mlsign_engine.specs.Pem.{wrapped}
use Rattle.mlsign_engine.proofs.Texts.{wrapped_none, first_line, front_stripped, other_front, none_left}
use Rattle.mlsign_engine.proofs.pem.is_wrapped.Goals as goal

pub returns-in_default : goal.returns-in_default
returns-in_default c =
    let ending : List ℕ = c.args.ending.now in
    let line : List ℕ = c.split_at.result.0.now in
    let after : List ℕ = c.split_at.result.1.now in
    let rest : List ℕ = c.loop-left.rest.now in
    let lines = first_line ending c.loop-left.left.now line after c.min.result (sym c.is_empty.ensures ∙ c.loop-left-test.true) c.min.ensures
    c.split_at.ensures.front c.split_at.ensures.back in
    sym (other_front line (ending ++ wrapped ending after) rest c.in_default.ensures.cases) ∙ ap (λ (z : List ℕ). bytes_eq z rest) (sym lines)
    ∙ c.loop-left.invariant

pub returns-in_default-strip_prefix : goal.returns-in_default-strip_prefix
returns-in_default-strip_prefix c =
    let ending : List ℕ = c.args.ending.now in
    let line : List ℕ = c.split_at.result.0.now in
    let after : List ℕ = c.split_at.result.1.now in
    let rest : List ℕ = c.loop-left.rest.now in
    let lines = first_line ending c.loop-left.left.now line after c.min.result (sym c.is_empty.ensures ∙ c.loop-left-test.true) c.min.ensures
    c.split_at.ensures.front c.split_at.ensures.back in
    sym (other_front ending (wrapped ending after) c.in-Some.behind.now c.in_default-strip_prefix.ensures.cases)
    ∙ ap (bytes_eq (ending ++ wrapped ending after)) c.in-Some.ensures.cases.1
    ∙ sym (front_stripped line (ending ++ wrapped ending after) rest c.in-Some.ensures.cases.0) ∙ ap (λ (z : List ℕ). bytes_eq z rest) (sym lines)
    ∙ c.loop-left.invariant

pub loop-left-preserved : goal.loop-left-preserved
loop-left-preserved c =
    let ending : List ℕ = c.args.ending.now in
    let line : List ℕ = c.split_at.result.0.now in
    let after : List ℕ = c.split_at.result.1.now in
    let rest : List ℕ = c.loop-left.rest.now in
    let lines = first_line ending c.loop-left.left.now line after c.min.result (sym c.is_empty.ensures ∙ c.loop-left-test.true) c.min.ensures
    c.split_at.ensures.front c.split_at.ensures.back in
    ap (bytes_eq (wrapped ending after)) c.in-Some-strip_prefix.ensures.cases.1
    ∙ sym (front_stripped ending (wrapped ending after) c.in-Some.behind.now c.in-Some-strip_prefix.ensures.cases.0)
    ∙ ap (bytes_eq (ending ++ wrapped ending after)) c.in-Some.ensures.cases.1
    ∙ sym (front_stripped line (ending ++ wrapped ending after) rest c.in-Some.ensures.cases.0) ∙ ap (λ (z : List ℕ). bytes_eq z rest) (sym lines)
    ∙ c.loop-left.invariant

pub returns : goal.returns
returns c =
    let none = wrapped_none c.args.ending.now c.loop-left.left.now (eqb-true _ _ (sym c.is_empty.ensures ∙ c.loop-left-test.false)) in
    c.is_empty-2.ensures ∙ sym (none_left c.loop-left.rest.now) ∙ ap (λ (z : List ℕ). bytes_eq z c.loop-left.rest.now) (sym none) ∙ c.loop-left.invariant
