use Rattle.std.proofs.Common.{◌∙◌, ap, bit_and, ◌-◌}
use Rattle.fips204_base.proofs.Names.{one_shl, and_mask}
use Rattle.fips204_base.proofs.conversion.low.Goals as goal

pub returns : goal.returns
returns c = ap (λ n. bit_and c.args.word (n - 1)) (one_shl c.args.c 32 c.requires) ∙ and_mask c.args.word c.args.c
