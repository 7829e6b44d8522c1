use Rattle.fips204_base.proofs.Zetas.{negative_factor, negative_quotient}
use Rattle.fips204_base.proofs.helpers.zeta_table.neg_zeta_words.Goals as goal

pub returns-clause-factor : goal.returns-clause-factor
returns-clause-factor c = negative_factor c.args.m c.requires

pub returns-clause-quotient : goal.returns-clause-quotient
returns-clause-quotient c = negative_quotient c.args.m c.requires
