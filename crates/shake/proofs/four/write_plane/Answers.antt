use Rattle.std.proofs.Common.{◌∙◌}
use Rattle.shake.proofs.four.write_plane.Goals as goal

pub returns-clause-others : goal.returns-clause-others
returns-clause-others c = λ i h other.
    c.write_lane-5.ensures.others i h other
    ∙ c.write_lane-4.ensures.others i h other
    ∙ c.write_lane-3.ensures.others i h other
    ∙ c.write_lane-2.ensures.others i h other
    ∙ c.write_lane.ensures.others i h other
