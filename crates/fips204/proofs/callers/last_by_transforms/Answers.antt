use Rattle.std.proofs.Common.{arith}
use Rattle.fips204.proofs.callers.last_by_transforms.Goals as goal

pub returns-clause-product : goal.returns-clause-product
returns-clause-product c = λ a b. c.product_of_transforms.ensures a b 255 (omega arith)

pub returns-clause-back : goal.returns-clause-back
returns-clause-back c = λ w. c.inverse_of_transform.ensures w 255 (omega arith)
