use Rattle.shake.proofs.FourLanes.{written_four, written_state, written_others}
use Rattle.shake.proofs.four.write_lane.Goals as goal

pub returns-clause-four : goal.returns-clause-four
returns-clause-four c = written_four c.args.states.now c.args.place c.args.j c.args.lane c.requires.four

pub returns-clause-written : goal.returns-clause-written
returns-clause-written c = written_state c.args.states.now c.args.place c.args.j c.args.lane c.requires.four c.requires.place.1 c.requires.place.0

pub returns-clause-others : goal.returns-clause-others
returns-clause-others c = λ i h other. written_others c.args.states.now c.args.place c.args.j c.args.lane i c.requires.four c.requires.place.1 other
