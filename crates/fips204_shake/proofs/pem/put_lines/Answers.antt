use Rattle.std.proofs.Common.{◌≡◌, ◌∙◌, ◌+◌, ◌<◌, ◌-◌, false, eqb, length, sym, arith}
use Rattle.std.proofs.lemmas.Bool.{eqb-true}
use Rattle.std.proofs.lemmas.Bool.Decides.{nat_tests}
use Rattle.std.proofs.lemmas.List.{length-take, length-drop}
use Rattle.fips204_shake.specs.Base64.{base64_length}
use Rattle.fips204_shake.specs.Pem.{lines_length}
use Rattle.fips204_shake.proofs.PemTexts.{line_put, line_placed, rest_small, all_put}
use Rattle.fips204_shake.proofs.pem.put_lines.Goals as goal

pub loop-rest-preserved : goal.loop-rest-preserved
loop-rest-preserved c =
    let not_empty : eqb (length c.loop-rest.rest.now) 0 ≡ false = sym c.is_empty.ensures ∙ c.loop-rest-test.true in
    let some : 0 < length c.loop-rest.rest.now = grind (arith, nat_tests) in
    let line : length c.split_at.result.0.now ≡ c.min.result = rw c.split_at.ensures.front (omega (arith, length-take c.min.result c.loop-rest.rest.now, c.min.ensures)) in
    let after : length c.split_at.result.1.now ≡ length c.loop-rest.rest.now - c.min.result = rw c.split_at.ensures.back (length-drop c.min.result c.loop-rest.rest.now) in
    let placed : base64_length (length c.split_at.result.0.now) + 1 + lines_length (length c.split_at.result.1.now) ≡ lines_length (length c.loop-rest.rest.now) =
    line_placed _ _ _ _ some c.min.ensures line after in
    record {
      small = rest_small c.loop-rest.rest.now c.split_at.result.1.now c.min.result c.loop-rest.invariant.small c.split_at.ensures.back;
      place = omega (arith, c.put-at.ensures.place, c.put_symbols-at.ensures.place, placed, c.loop-rest.invariant.place);
      written = line_put _ _ _ _ _ _ _ c.min.result c.loop-rest.invariant.small some c.min.ensures c.split_at.ensures.front c.split_at.ensures.back
          c.put_symbols-at.ensures.written c.put-at.ensures.written c.loop-rest.invariant.written;
    }

pub returns-clause-written : goal.returns-clause-written
returns-clause-written c = all_put _ c.loop-rest.rest.now _ (eqb-true _ _ (sym c.is_empty.ensures ∙ c.loop-rest-test.false)) c.loop-rest.invariant.written
