use Rattle.fips204_shake.proofs.callers.limit_parts.Goals as goal

pub returns-clause-fronts : goal.returns-clause-fronts
returns-clause-fronts c = λ d e h g. ((c.only_limits_differ.ensures d e h g).h, (c.only_limits_differ.ensures d e h g).g)

pub returns-clause-samples : goal.returns-clause-samples
returns-clause-samples c = λ d e h g. (c.only_limits_differ.ensures d e h g).samples

pub returns-clause-answers : goal.returns-clause-answers
returns-clause-answers c = λ p d e known h g. (c.only_limits_differ.ensures d e h g).answers p known

pub returns-clause-verdicts : goal.returns-clause-verdicts
returns-clause-verdicts c = λ p d e known h g. (c.only_limits_differ.ensures d e h g).verdicts p known
