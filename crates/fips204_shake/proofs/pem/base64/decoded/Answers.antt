use Rattle.std.proofs.Common.{◌≡◌, ◌∙◌, ℕ, List, ◌∷◌, not, ◌&&◌, eqb, ltb, length, Err, sym, ap, arith, rules}
use Rattle.std.specs.List.{filter}
use Rattle.fips204_shake.specs.Base64Reading.{is_black}
use Rattle.fips204_shake.proofs.Base64Groups.{step_few, step_refused, step_followed, step_too_long, step_read, step_done}
use Rattle.fips204_shake.proofs.pem.base64.decoded.Goals as goal

pub returns-in_default-three_symbols-clause-exact : goal.returns-in_default-three_symbols-clause-exact
returns-in_default-three_symbols-clause-exact c =
    step_few _ _ _ _ _ _ c.loop-a.invariant.read c.in-Some.ensures.parts c.in_default-three_symbols.ensures.parts

pub returns-in_err-bytes-clause-exact : goal.returns-in_err-bytes-clause-exact
returns-in_err-bytes-clause-exact c =
    let failed : c.from_residual.result ≡ Err c.in_err-bytes.field-0.0 = search rules in
    rw failed (step_refused _ _ _ _ _ _ _ _ _ _ c.loop-a.invariant.read
    (c.in-Some.ensures.parts ∙ ap (λ (z : List ℕ). c.in-Some.a ∷ z) c.in-Some-three_symbols.ensures.parts) c.in_err-bytes.ensures.bytes)

pub returns-then-is_followed-clause-exact : goal.returns-then-is_followed-clause-exact
returns-then-is_followed-clause-exact c =
    let after : List ℕ = filter is_black c.in-Some-three_symbols.after.now in
    step_followed _ _ _ _ _ _ _ _ _ _ c.loop-a.invariant.read
    (c.in-Some.ensures.parts ∙ ap (λ (z : List ℕ). c.in-Some.a ∷ z) c.in-Some-three_symbols.ensures.parts) c.in_ok-bytes.ensures.bytes
    (ap (λ (n : ℕ). ltb n 3 && not (eqb (length after) 0)) c.in_ok-bytes.ensures.size ∙ sym c.is_followed.ensures ∙ c.if-is_followed.true)

pub returns-then-out-at-clause-exact : goal.returns-then-out-at-clause-exact
returns-then-out-at-clause-exact c =
    let after : List ℕ = filter is_black c.in-Some-three_symbols.after.now in
    step_too_long _ _ _ _ _ _ _ _ _ _ c.loop-a.invariant.read
    (c.in-Some.ensures.parts ∙ ap (λ (z : List ℕ). c.in-Some.a ∷ z) c.in-Some-three_symbols.ensures.parts) c.in_ok-bytes.ensures.bytes
    (ap (λ (n : ℕ). ltb n 3 && not (eqb (length after) 0)) c.in_ok-bytes.ensures.size ∙ sym c.is_followed.ensures ∙ c.if-is_followed.false)
    (omega (arith, c.in_ok-bytes.ensures.size, c.if-out-at.true, c.loop-a.auto.out))

pub loop-a-preserved : goal.loop-a-preserved
loop-a-preserved c =
    let after : List ℕ = filter is_black c.in-Some-three_symbols.after.now in
    let size = c.in_ok-bytes.ensures.size in
    record {
      within = omega (arith, size, c.if-out-at.false, c.loop-a.auto.out, c.loop-a.invariant.within, c.put-at.ensures.place);
      read = step_read _ _ _ _ _ _ _ _ _ _ _ _ _ c.loop-a.invariant.read
          (c.in-Some.ensures.parts ∙ ap (λ (z : List ℕ). c.in-Some.a ∷ z) c.in-Some-three_symbols.ensures.parts) c.in_ok-bytes.ensures.bytes
          (ap (λ (n : ℕ). ltb n 3 && not (eqb (length after) 0)) size ∙ sym c.is_followed.ensures ∙ c.if-is_followed.false)
          (omega (arith, size, c.if-out-at.false, c.loop-a.auto.out)) c.put-at.ensures.place c.put-at.ensures.written;
    }

pub returns-clause-exact : goal.returns-clause-exact
returns-clause-exact c = step_done _ _ _ _ c.loop-a.invariant.read c.in_default.ensures.parts
