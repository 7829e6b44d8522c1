use Rattle.std.proofs.Common.{◌≡◌, ℕ, List, refl, inl, replicate}
use Rattle.fips204.proofs.Names.{plain, set_44}
use Rattle.fips204.proofs.callers.accepted_for_both_over_one_byte.Goals as goal

pub returns-then-verify : goal.returns-then-verify
returns-then-verify c both differ =
    let H = λ (_ : List ℕ). replicate 4096 0x55 in
    let one = plain c.args.first.now c.args.ctx.now in
    let two = plain c.args.second.now c.args.ctx.now in
    let inputs = λ (same : one ≡ two). let texts : c.args.first.now ≡ c.args.second.now = cc in differ texts in
    c.binding.ensures.inputs set_44 H H c.args.key.now one two _ _ c.args.signature.now (inl refl) record { kind = refl; first = refl; second = refl } inputs
    (c.verify.ensures.0 c.if-verify.true) (c.verify-then-verify.ensures.0 both)
