use Rattle.std.proofs.Common.{rules, arith, ◌≡◌, ◌∙◌, ℕ, List, [], sym, subst, map, get_or, Bool, false, IsTrue, Bor, ◌↔◌}
use Rattle.fips204.proofs.Names.{get_or-map, get_or_default, length-map, plain, VerifiesPrepared, row_written}
use Rattle.fips204.proofs.keys.prepared.PreparedPublicKey.verify_each.Goals as goal

pub loop-i-preserved : goal.loop-i-preserved
loop-i-preserved g c =
    let texts = map (λ (m : Bor (List ℕ)). m.now) c.args.messages.now in
    let accepted = λ (k : ℕ) (message : List ℕ). VerifiesPrepared g.S.Set.set g.H.Xof.front c.args.self.now (get_or c.args.signatures.now k []) (plain message c.args.ctx.now) in
    let text = get_or-map (λ (m : Bor (List ℕ)). m.now) c.args.messages.now c.loop-i.i record { ref_ptr = (0, 0); now = [] } [] c.loop-i-test.true in
    let signature : c.index-signatures-i.result ≡ get_or c.args.signatures.now c.loop-i.i [] =
    c.index-signatures-i.is ∙ get_or_default c.args.signatures.now c.loop-i.i c.index-signatures-i.result [] (omega (arith, c.loop-i-test.true, c.requires.signatures)) in
    record {
      size = search rules;
      judged = row_written (λ (k : ℕ) (answer : Bool). IsTrue answer ↔ accepted k (get_or texts k [])) c.loop-i.out c.loop-i.i c.verify.result false
          (omega (arith, c.loop-i-test.true, c.loop-i.invariant.size)) c.loop-i.invariant.judged
          (subst (λ (message : List ℕ). IsTrue c.verify.result ↔ accepted c.loop-i.i message) (sym text) (rw signature at c.verify.ensures));
    }

pub returns : goal.returns
returns g c =
    let size = length-map c.args.messages.now (λ (m : Bor (List ℕ)). m.now) in
    (c.requires.signatures ∙ sym size, c.loop-i.invariant.size ∙ sym size, λ k h. c.loop-i.invariant.judged k (omega (arith, h, size, c.loop-i-test.false)))
