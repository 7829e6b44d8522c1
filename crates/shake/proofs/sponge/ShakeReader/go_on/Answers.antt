use Rattle.std.proofs.Common.{◌∙◌, arith, rules}
use Rattle.shake.proofs.SideBySide.{given_out, in_hand}
use Rattle.shake.proofs.sponge.ShakeReader.go_on.Goals as goal

pub returns-then-wanted-clause-first : goal.returns-then-wanted-clause-first
returns-then-wanted-clause-first g c = λ n. c.begin_state.ensures n ∙ in_hand g.row.R c.args.a.now.rate.0 c.args.a.now.rate.1 _ _ (c.f1600x4.ensures.permuted 0 (omega arith)) n

pub returns-then-wanted-clause-second : goal.returns-then-wanted-clause-second
returns-then-wanted-clause-second g c = λ n. c.begin_state-then-wanted.ensures n ∙ in_hand g.row.R c.args.b.now.rate.0 c.args.b.now.rate.1 _ _ (c.f1600x4.ensures.permuted 1 (omega arith)) n

pub returns-then-wanted-clause-third : goal.returns-then-wanted-clause-third
returns-then-wanted-clause-third g c = λ n. c.begin_state-then-wanted-2.ensures n ∙ in_hand g.row.R c.args.c.now.rate.0 c.args.c.now.rate.1 _ _ (c.f1600x4.ensures.permuted 2 (omega arith)) n

pub returns-then-wanted-clause-fourth : goal.returns-then-wanted-clause-fourth
returns-then-wanted-clause-fourth g c = λ n. c.begin_state-then-wanted-3.ensures n ∙ in_hand g.row.R c.args.d.now.rate.0 c.args.d.now.rate.1 _ _ (c.f1600x4.ensures.permuted 3 (omega arith)) n

pub returns-else-wanted-clause-first : goal.returns-else-wanted-clause-first
returns-else-wanted-clause-first g c = given_out g.row.R c.state_at-a.result _ c.args.a.now.block c.args.a.now.given c.state_at-a.ensures (search rules)

pub returns-else-wanted-clause-second : goal.returns-else-wanted-clause-second
returns-else-wanted-clause-second g c = given_out g.row.R c.state_at-b.result _ c.args.b.now.block c.args.b.now.given c.state_at-b.ensures (search rules)

pub returns-else-wanted-clause-third : goal.returns-else-wanted-clause-third
returns-else-wanted-clause-third g c = given_out g.row.R c.state_at-c.result _ c.args.c.now.block c.args.c.now.given c.state_at-c.ensures (search rules)

pub returns-else-wanted-clause-fourth : goal.returns-else-wanted-clause-fourth
returns-else-wanted-clause-fourth g c = given_out g.row.R c.state_at-d.result _ c.args.d.now.block c.args.d.now.given c.state_at-d.ensures (search rules)
