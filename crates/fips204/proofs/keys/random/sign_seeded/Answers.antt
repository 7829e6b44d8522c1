use Rattle.std.proofs.Common.{rules}
use Rattle.fips204.proofs.RefusedCalls.{drawn_seed}
use Rattle.fips204.proofs.keys.random.sign_seeded.Goals as goal

pub returns-clause-answer : goal.returns-clause-answer
returns-clause-answer g c =
    drawn_seed _ _ _ _ _ _ c.args.seed.now _ c.sign_drawn.result (λ bytes given. search (given, rules)) (λ refused. search (refused, rules)) (λ f is. g.met.K.SignsInput.refused c.args.key.now c.args.seed.now _ f is) c.sign_drawn.ensures.answer
