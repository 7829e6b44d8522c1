use Rattle.std.proofs.Common.{rules, arith, ◌≡◌, ◌∙◌, ℕ, List, [], ap, sym, map, get_or, Result, Err, Bor}
use Rattle.fips204.proofs.Names.{Fault, SamplingLimit, get_or-map, length-map, plain, sign_prepared, row_written}
use Rattle.fips204.proofs.keys.prepared.PreparedPrivateKey.sign_each.Goals as goal

pub loop-i-preserved : goal.loop-i-preserved
loop-i-preserved g c =
    let texts = map (λ (m : Bor (List ℕ)). m.now) c.args.messages.now in
    let signed = λ (k : ℕ) (message : List ℕ). sign_prepared g.S.Set.set g.H.Xof.front c.args.self.now (get_or c.args.seeds.now k []) (plain message c.args.ctx.now) in
    let text = get_or-map (λ (m : Bor (List ℕ)). m.now) c.args.messages.now c.loop-i.i record { ref_ptr = (0, 0); now = [] } [] c.loop-i-test.true in
    record {
      size = search rules;
      signed = row_written (λ (k : ℕ) (answer : Result (List ℕ) Fault). answer ≡ signed k (get_or texts k [])) c.loop-i.out c.loop-i.i c.try_sign_with_seed.result (Err SamplingLimit)
          (omega (arith, c.loop-i-test.true, c.loop-i.invariant.size)) c.loop-i.invariant.signed (c.try_sign_with_seed.ensures.answer ∙ ap (signed c.loop-i.i) (sym text));
    }

pub returns : goal.returns
returns g c =
    let size = length-map c.args.messages.now (λ (m : Bor (List ℕ)). m.now) in
    (c.requires.seeds ∙ sym size, c.loop-i.invariant.size ∙ sym size, λ k h. c.loop-i.invariant.signed k (omega (arith, h, size, c.loop-i-test.false)))
