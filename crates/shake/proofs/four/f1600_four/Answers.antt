use Rattle.std.proofs.Common.{◌∙◌, ap, arith}
use Rattle.std.proofs.lemmas.Simd.{pick_l_whole}
use Rattle.shake.specs.Four.{state_at}
use Rattle.shake.specs.Keccak.{keccak_f}
use Rattle.shake.proofs.four.f1600_four.Goals as goal

pub returns-clause-first : goal.returns-clause-first
returns-clause-first c = c.state_at.ensures ∙ c.f1600x4.ensures.permuted 0 (omega arith) ∙ ap keccak_f (ap (λ s. state_at s 0) c.write_beside.ensures ∙ pick_l_whole 0 c.args.a.now 25 c.told-a)

pub returns-clause-second : goal.returns-clause-second
returns-clause-second c = c.state_at-2.ensures ∙ c.f1600x4.ensures.permuted 1 (omega arith) ∙ ap keccak_f (ap (λ s. state_at s 1) c.write_beside.ensures ∙ pick_l_whole 0 c.args.b.now 25 c.told-b)

pub returns-clause-third : goal.returns-clause-third
returns-clause-third c = c.state_at-3.ensures ∙ c.f1600x4.ensures.permuted 2 (omega arith) ∙ ap keccak_f (ap (λ s. state_at s 2) c.write_beside.ensures ∙ pick_l_whole 0 c.args.c.now 25 c.told-c)

pub returns-clause-fourth : goal.returns-clause-fourth
returns-clause-fourth c = c.state_at-4.ensures ∙ c.f1600x4.ensures.permuted 3 (omega arith) ∙ ap keccak_f (ap (λ s. state_at s 3) c.write_beside.ensures ∙ pick_l_whole 0 c.args.d.now 25 c.told-d)
