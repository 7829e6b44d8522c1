use Rattle.fips204_base.proofs.Zetas.{word_factor, word_quotient}
use Rattle.fips204_base.proofs.helpers.zeta_table.zeta_words.Goals as goal

pub returns-clause-factor : goal.returns-clause-factor
returns-clause-factor c = word_factor c.args.m c.requires

pub returns-clause-quotient : goal.returns-clause-quotient
returns-clause-quotient c = word_quotient c.args.m c.requires
