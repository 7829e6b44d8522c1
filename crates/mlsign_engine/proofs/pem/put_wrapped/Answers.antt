use Rattle.std.proofs.Common.{◌∙◌, ap, sym, List, ℕ, ◌++◌}
use Rattle.mlsign_engine.proofs.Texts.{line_written, all_written}
use Rattle.mlsign_engine.proofs.pem.put_wrapped.Goals as goal

pub loop-rest-preserved : goal.loop-rest-preserved
loop-rest-preserved c =
    line_written c.loop-rest.out.items c.args.ending.now c.loop-rest.rest.now c.split_at.result.1.now _ c.extend_from_slice-in-loop-rest.new.self.items
    c.min.result (sym c.is_empty.ensures ∙ c.loop-rest-test.true) c.min.ensures c.split_at.ensures.back
    (c.in_ok-extend_from_slice-2.ensures.items ∙ ap (λ (z : List ℕ). z ++ c.args.ending.now)
    (c.in_ok-extend_from_slice.ensures.items ∙ ap (λ (z : List ℕ). c.loop-rest.out.items ++ z) c.split_at.ensures.front))
    c.loop-rest.invariant

pub returns : goal.returns
returns c = all_written c.loop-rest.out.items c.args.ending.now c.loop-rest.rest.now _ (sym c.is_empty.ensures ∙ c.loop-rest-test.false) c.loop-rest.invariant
